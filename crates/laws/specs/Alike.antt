-- Placement reads no line of the table: devices that are alike but for their tables place alike. So a write may cut its range out first.
use Rattle.std.specs.Prelude.{ℕ, suc, ◌+◌, ◌/◌, ◌≤◌, ◌<◌, ◌≡◌, length, get_or, set, replicate}
use Rattle.std.proofs.Math.Path.{refl, sym, ap}
use Rattle.std.proofs.Common.{ap₂, ◌∙◌, subst, set-set}
use mathlib.Core.List.{List, [], ◌∷◌}
use native.Mathlib.Omega.{arith}
use borrow.Author.Tests.{ne_eqb}
use Rattle.std.proofs.Math.Dec.{eqb}
use Rattle.std.proofs.lemmas.List.{length-replicate, set_comm}
use Rattle.std.proofs.lemmas.List.Edits.{sets}
use Rattle.std.proofs.Math.Seq.{length-sets}
use Rattle.rules.specs.Counting.{count}
use Rattle.rules.specs.Extents.{none, runs}
use Rattle.rules.specs.Device.{Device, blocks, lines, at, room, free, valid, mapped}
use Rattle.rules.specs.Placement.{put_at, puts_at, places_at, targets, puts, places, pieces}
use Rattle.rules.specs.Request.{with_table, trimmed}
use Rattle.laws.specs.Sums.{count_none}
use Rattle.laws.specs.Device.{SoundDevice, none-block}
use Rattle.laws.specs.Lines.{trimmed-sound, trimmed_in}
use Rattle.laws.specs.Placed.{puts-table}
use Rattle.laws.specs.Order.{length-targets, length-placed, targets_open, targets-same}
use Rattle.laws.specs.Valid.{puts-valid}

-- ---- placement reads no line of the table

pub record Alike (d e : Device) : Type 0 where
  pub pages : d.pages ≡ e.pages
  pub fills : d.fills ≡ e.fills
  pub spare : d.spare ≡ e.spare
  pub reserve : d.reserve ≡ e.reserve

module _ (d e : Device) (a : Alike d e) where
  pub alike-free : free d ≡ free e
  unfolding free room
  alike-free = rw (a.pages, a.fills, a.reserve)

  alike-put : (b l : ℕ) → Alike (put_at b l d) (put_at b l e)
  unfolding put_at
  alike-put b l = record {
    pages = a.pages;
    fills = rw a.fills;
    spare = rw (a.spare, a.pages, a.fills);
    reserve = a.reserve;
  }

  pub alike-targets : (l n : ℕ) → targets l n d ≡ targets l n e
  alike-targets l n = targets-same l n d e a.pages a.fills a.reserve

alike-places_at : (l : ℕ) (bs : List ℕ) (d e : Device) → Alike d e → places_at l bs d ≡ places_at l bs e
unfolding places_at
alike-places_at l [] d e a = refl
alike-places_at l (b ∷ bs) d e a =
    ap₂ (λ (p : ℕ) (r : List ℕ). p ∷ r) (rw (a.pages, a.fills)) (alike-places_at (suc l) bs (put_at b l d) (put_at b l e) (alike-put d e a b l))

alike-puts_at : (l : ℕ) (bs : List ℕ) (d e : Device) → Alike d e → Alike (puts_at l bs d) (puts_at l bs e)
unfolding puts_at
alike-puts_at l [] d e a = a
alike-puts_at l (b ∷ bs) d e a = alike-puts_at (suc l) bs (put_at b l d) (put_at b l e) (alike-put d e a b l)

pub alike-places : (l n : ℕ) (d e : Device) → Alike d e → places l n d ≡ places l n e
unfolding places
alike-places l n d e a = ap (λ (bs : List ℕ). places_at l bs d) (alike-targets d e a l n) ∙ alike-places_at l (targets l n e) d e a

pub alike-puts : (l n : ℕ) (d e : Device) → Alike d e → Alike (puts l n d) (puts l n e)
unfolding puts
alike-puts l n d e a = subst (λ (bs : List ℕ). Alike (puts_at l bs d) (puts_at l (targets l n e) e)) (sym (alike-targets d e a l n)) (alike-puts_at l (targets l n e) d e a)

pub alike-pieces : (l n : ℕ) (d e : Device) → Alike d e → pieces l n d ≡ pieces l n e
unfolding pieces
alike-pieces l n d e a = ap₂ (λ (k : ℕ) (ps : List ℕ). runs k l ps) a.pages (alike-places l n d e a)

-- ---- a write over a range that is trimmed first

set_sets : (t us : List ℕ) (i j v : ℕ) → i < j → set (sets t j us) i v ≡ sets (set t i v) j us
set_sets t [] i j v h = refl
set_sets t (u ∷ us) i j v h =
    set_sets (set t j u) us i (suc j) v (omega arith) ∙ ap (λ (x : List ℕ). sets x (suc j) us) (set_comm t j i u v (omega arith))

pub sets_sets : (t us vs : List ℕ) (i : ℕ) → length us ≡ length vs → sets (sets t i us) i vs ≡ sets t i vs
sets_sets t [] [] i e = refl
sets_sets t [] (v ∷ vs) i e = absurd (omega arith)
sets_sets t (u ∷ us) [] i e = absurd (omega arith)
sets_sets t (u ∷ us) (v ∷ vs) i e =
    ap (λ (x : List ℕ). sets x (suc i) vs) (set_sets (set t i u) us i (suc i) v (omega arith) ∙ ap (λ (x : List ℕ). sets x (suc i) us) (set-set t i u v))
    ∙ sets_sets (set t i v) us vs (suc i) (omega arith)

module _ (k l n : ℕ) (d : Device) where
  pub trimmed-alike : Alike (trimmed k l n d) d
  unfolding trimmed with_table
  trimmed-alike = record { pages = refl; fills = refl; spare = refl; reserve = refl }

  pub over-table : (puts l n (trimmed k l n d)).table ≡ (puts l n d).table
  unfolding puts trimmed with_table places
  over-table =
      let t = trimmed k l n d in
      puts-table l (targets l n t) t
      ∙ ap (sets t.table l) (alike-places l n t d trimmed-alike)
      ∙ sets_sets d.table (replicate n none) (places l n d) l (length-replicate n none ∙ sym (length-placed l n d))
      ∙ sym (puts-table l (targets l n d) d)

  pub over-valid : (c : ℕ) → valid (puts l n (trimmed k l n d)) c ≡ valid (puts l n d) c
  unfolding valid mapped
  over-valid c = rw (over-table, (alike-puts l n (trimmed k l n d) d trimmed-alike).pages)

  -- the trim has taken the range out of every block's count, and the write adds what each block takes
  pub over_rise : SoundDevice d → n ≤ free d → l + n ≤ lines d → (c : ℕ) → c < blocks d
      → valid (puts l n d) c ≡ valid (trimmed k l n d) c + count n (λ i. eqb (get_or (targets l n d) i 0) c)
  unfolding puts trimmed with_table
  over_rise s f h c z =
      let t = trimmed k l n d in
      let bs = targets l n t in
      let ts = trimmed-sound k l n d s h in
      let m = length-targets l n t in
      let size : lines t ≡ lines d = length-sets d.table l (replicate n none) in
      let f' : n ≤ free t = omega (arith, alike-free t d trimmed-alike) in
      omega (
        arith,
        over-valid c,
        puts-valid l bs t ts (targets_open l n t f') (omega arith) c z,
        count_none (length bs) (λ i. eqb (at t (l + i) / d.pages) c) (λ i a.
            ne_eqb (at t (l + i) / d.pages) c (λ e. none-block d s c z
            (sym (ap (λ (x : ℕ). x / d.pages) (trimmed_in k l n d h (l + i) (omega arith) (omega arith))) ∙ e))),
        ap (λ (x : ℕ). count x (λ i. eqb (get_or bs i 0) c)) m,
        ap (λ (x : List ℕ). count n (λ i. eqb (get_or x i 0) c)) (alike-targets t d trimmed-alike l n),
      )
