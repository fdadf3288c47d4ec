-- How many extents a device's map has after a write and after a trim, in terms of those before, with the bounds: at most n + 1 more, and
-- at most one a line.
use Rattle.std.specs.Prelude.{ℕ, zero, suc, ◌+◌, ◌-◌, ◌*◌, ◌%◌, ◌≤◌, ◌<◌, ◌≡◌}
use Rattle.std.proofs.Math.Path.{refl, ap, subst}
use Rattle.std.proofs.Common.{sym, ◌∙◌, arith, suc-mul}
use mathlib.Core.List.{List, [], ◌∷◌}
use Rattle.std.proofs.Math.Logic.{by_cases}
use Rattle.std.proofs.Math.Decide.{dec_lt, ℕ_discrete}
use Rattle.std.proofs.Math.Arith.{digits_mod}
use Rattle.std.proofs.Math.ListN.{length, get_or}
use Rattle.std.proofs.Math.Nat.{mul-mod_left}
use Rattle.rules.specs.Extents.{none, extent, lookup, runs}
use Rattle.rules.specs.Device.{Device, blocks, lines, at, fill, free, extents}
use Rattle.rules.specs.Placement.{put_at, puts_at, places_at, target, targets, puts, places, pieces}
use Rattle.rules.specs.Request.{with_table, trimmed}
use Rattle.rules.specs.declared.Extent.{Extent}
use Rattle.laws.specs.Counts.{Begins, runs-first, starts_before, ends_after, left_join, trim-count, write-count, place-bound}
use Rattle.laws.specs.Device.{SoundDevice, same_block, same-offset, page_lt, offset_lt}
use Rattle.laws.specs.Placed.{Open, Opens, put-pages, put_fill, put_fill-other, put_one, puts-table, puts-pages, length-places, places_lt, places-small}
use Rattle.laws.specs.Order.{target_found, length-targets, length-placed, targets_open, puts-all}
use Rattle.laws.specs.Lines.{trimmed-lines}
use Rattle.laws.specs.States.{table-lines}
use Rattle.laws.specs.Rows.{Rows, lookup-after}
use Rattle.laws.specs.Balance.{room-other}
use Rattle.laws.specs.Runs.{runs-rows, runs-lookup, runs-length, WordLines}
use Rattle.laws.specs.Encoded.{write-extents, extents-lines}

-- ---- new pages lie from their block's fill on

pub record New (d : Device) (p : ℕ) : Type 0 where
  pub block : ℕ
  pub offset : ℕ
  pub is : p ≡ block * d.pages + offset
  pub inside : block < blocks d
  pub above : fill d block ≤ offset
  pub below : offset < d.pages

fill-rises : (d : Device) (s : SoundDevice d) (b : ℕ) (v : Open d b) (l : ℕ) (a : l < lines d) (c : ℕ) → fill d c ≤ fill (put_at b l d) c
fill-rises d s b v l a c =
    by_cases (ℕ_discrete c b)
    (λ e. rw e (omega (arith, put_fill d s b v l a)))
    (λ e. omega (arith, put_fill-other d s b v l a c e))

-- what is new where fills have risen was new before
new-before : (d e : Device) (p : ℕ) → e.pages ≡ d.pages → blocks e ≡ blocks d → ((c : ℕ) → fill d c ≤ fill e c) → New e p → New d p
new-before d e p n b f r = record {
  block = r.block;
  offset = r.offset;
  is = r.is ∙ ap (λ (x : ℕ). r.block * x + r.offset) n;
  inside = omega (arith, r.inside);
  above = omega (arith, r.above, f r.block);
  below = omega (arith, r.below);
}

pub places-new : (l : ℕ) (bs : List ℕ) (d : Device) → SoundDevice d → Opens l bs d → l + length bs ≤ lines d → (i : ℕ) → i < length bs → New d (get_or (places_at l bs d) i none)
unfolding places_at
places-new l [] d s v h i t = absurd (omega arith)
places-new l (b ∷ bs) d s v h zero t = record { block = b; offset = fill d b; is = refl; inside = v.0.inside; above = omega arith; below = v.0.below }
places-new l (b ∷ bs) d s v h (suc i) t =
    let a : l < lines d = omega arith in
    let p = put_one b l d s v.0 a in
    new-before d (put_at b l d) (get_or (places_at (suc l) bs (put_at b l d)) i none) (put-pages d s b v.0 l a) p.blocks (fill-rises d s b v.0 l a)
    (places-new (suc l) bs (put_at b l d) p.sound v.1 (omega (arith, p.lines)) i (omega arith))

module _ (d : Device) (s : SoundDevice d) (p : ℕ) (w : New d p) (l : ℕ) where
  -- a page from the fill on has no line
  from_fill : (o : ℕ) → fill d w.block ≤ o → o < d.pages → at d l ≡ w.block * d.pages + o → ⊥
  from_fill o f k e =
      let m : at d l ≡ none → ⊥ = λ g. omega (arith, page_lt d s w.block o w.inside k) in
      let h = s.home l m in
      let z = offset_lt d s l m in
      omega (
        arith,
        h.below,
        ap (fill d) (same_block d.pages h.block w.block h.offset o z k (sym h.is ∙ e)),
        same-offset d.pages h.block w.block h.offset o z k (sym h.is ∙ e),
      )

  pub new-page : at d l ≡ p → ⊥
  new-page e = from_fill w.offset w.above w.below (e ∙ w.is)

  -- nor has the page behind it, unless it begins a block
  pub next-page : at d l ≡ p + 1 → (p + 1) % d.pages ≡ 0
  next-page e =
      by_cases (dec_lt (w.offset + 1) d.pages)
      (λ k. absurd (from_fill (w.offset + 1) (omega (arith, w.above)) k (omega (arith, w.is))))
      (λ k. let g : p + 1 ≡ suc w.block * d.pages = omega (arith, w.is, w.below, suc-mul w.block d.pages) in
      ap (λ (x : ℕ). x % d.pages) g ∙ mul-mod_left (suc w.block) d.pages)

-- ---- the write

-- the first page that a write of n pages from line l on takes
abbrev pub first_place : ℕ → ℕ → Device → ℕ
first_place l n d = get_or (places l n d) 0 none

-- lines l, l + 1, .. into some blocks, each open when its page comes
pub puts_grow : (l : ℕ) (bs : List ℕ) (d : Device) → SoundDevice d → Opens l bs d → 0 < length bs → l + length bs ≤ lines d
    → length (extents (puts_at l bs d)) + left_join d.pages (extent l (get_or (places_at l bs d) 0 none) 1) (extents d)
    ≡ starts_before l (extents d) + ends_after (l + length bs) (extents d) + length (runs d.pages l (places_at l bs d))
unfolding extents places_at
puts_grow l [] d s v z h = absurd (omega arith)
puts_grow l (b ∷ bs) d s v z h =
    let first = b * d.pages + fill d b in
    let rest = places_at (suc l) bs (put_at b l d) in
    let size : length rest ≡ length bs = length-places (suc l) bs (put_at b l d) in
    let new : (i : ℕ) → i < length (b ∷ bs) → New d (get_or (first ∷ rest) i none) = places-new l (b ∷ bs) d s v h in
    let some : (i : ℕ) → i < length (b ∷ bs) → get_or (first ∷ rest) i none < none = places_lt l (b ∷ bs) d s v h in
    let counted =
    write-count d.pages s.some l first rest d.table (omega arith) (places-small l (b ∷ bs) d s v h) (table-lines d s)
    (λ e. omega (arith, some 0 (omega arith)))
    (λ e. omega (arith, some (length rest) (omega arith)))
    (λ e. absurd (new-page d s first (new 0 (omega arith)) l e))
    (next-page d s (get_or (first ∷ rest) (length rest) none) (new (length rest) (omega arith)) (l + length (first ∷ rest))) in
    rw (puts-pages l (b ∷ bs) d, puts-table l (b ∷ bs) d) (rw size at counted)

puts-bound : (l : ℕ) (bs : List ℕ) (d : Device) → SoundDevice d → Opens l bs d → l + length bs ≤ lines d
    → length (extents (puts_at l bs d)) ≤ length (extents d) + length (runs d.pages l (places_at l bs d)) + 1
puts-bound l bs d s v h =
    let new = runs d.pages l (places_at l bs d) in
    omega (arith, ap length (write-extents l bs d s v h), place-bound d.pages l (l + length bs) new (extents d) (omega arith))

module _ (l n : ℕ) (d : Device) (s : SoundDevice d) (f : n ≤ free d) (h : l + n ≤ lines d) where
  opens : Opens l (targets l n d) d
  opens = targets_open l n d f

  -- each of its pages is a new one
  pub place-new : (i : ℕ) → i < n → New d (get_or (places l n d) i none)
  unfolding places
  place-new i t = let m = length-targets l n d in places-new l (targets l n d) d s opens (omega (arith, m)) i (omega (arith, m))

  pub place-some : (i : ℕ) → i < n → get_or (places l n d) i none ≡ none → ⊥
  unfolding places
  place-some i t e = let m = length-targets l n d in omega (arith, places_lt l (targets l n d) d s opens (omega (arith, m)) i (omega (arith, m)), e)

  -- its first piece begins at line l, at the first page
  pub pieces-begin : 0 < n → Begins l (first_place l n d) (pieces l n d)
  unfolding pieces
  pieces-begin z = go (places l n d) refl
    where
      go : (ps : List ℕ) → places l n d ≡ ps → Begins l (get_or ps 0 none) (runs d.pages l ps)
      go [] e = absurd (omega (arith, ap length e, length-placed l n d))
      go (p ∷ ps) e = runs-first d.pages l p ps (λ g. place-some 0 z (ap (λ (xs : List ℕ). get_or xs 0 none) e ∙ g))

  -- at most one more than its pieces
  pub pieces-bound : length (extents (puts l n d)) ≤ length (extents d) + length (pieces l n d) + 1
  unfolding puts pieces places
  pieces-bound = let t = length-targets l n d in puts-bound l (targets l n d) d s opens (omega arith)

  -- so at most n + 1 more
  pub write-bound : length (extents (puts l n d)) ≤ length (extents d) + n + 1
  unfolding pieces
  write-bound = omega (arith, pieces-bound, runs-length d.pages l (places l n d), length-placed l n d)

  -- at most one a line
  pub write-lines : length (extents (puts l n d)) ≤ lines d
  write-lines = omega (arith, extents-lines (puts l n d), (puts-all l n d s f h).lines)

  -- ---- 02, T-04: where no block has room for all of them there is more than one piece

  -- its first page is the next of an open block
  opened : 0 < n → (b : ℕ) × Open d b × (first_place l n d ≡ b * d.pages + fill d b)
  unfolding places places_at
  opened z = go (targets l n d) opens refl
    where
      go : (bs : List ℕ) → Opens l bs d → targets l n d ≡ bs → (b : ℕ) × Open d b × (first_place l n d ≡ b * d.pages + fill d b)
      go [] v e = absurd (omega (arith, ap length e, length-targets l n d))
      go (b ∷ bs) v e = (b, v.0, ap (λ (xs : List ℕ). get_or (places_at l xs d) 0 none) e)

  words : WordLines (places l n d)
  unfolding places
  words = places-small l (targets l n d) d s opens (omega (arith, length-targets l n d))

  pub split_pieces : 0 < n → (target n d < blocks d → ⊥) → 2 ≤ length (pieces l n d)
  unfolding pieces lookup
  split_pieces z unfit = go (pieces-begin z).count (pieces-begin z).rest (pieces-begin z).is
    where
      -- a single piece of so many pages lies in one block, which has room for them
      short : (c : ℕ) → pieces l n d ≡ extent l (first_place l n d) c ∷ [] → c < n
      short c e =
          let o = opened z in
          let b = o.0 in
          let v = o.1 in
          let rows = subst (Rows d.pages l none (l + n)) e (runs-rows d.pages s.some (places l n d) l (l + n) words (omega (arith, length-placed l n d))) in
          let at : first_place l n d % d.pages ≡ fill d b = ap (λ (x : ℕ). x % d.pages) o.2 ∙ digits_mod b v.below in
          by_cases (dec_lt c n)
          (λ h. h)
          (λ h. absurd (unfit (target_found n d z b v.inside (omega (arith, rows.0.inside, at, room-other d b v.other)))))

      go : (c : ℕ) (rest : List Extent) → pieces l n d ≡ extent l (first_place l n d) c ∷ rest → 2 ≤ length (pieces l n d)
      go c (x ∷ xs) e = omega (arith, ap length e)
      go c [] e =
          absurd (place-some (n - 1) (omega arith)
          (sym (runs-lookup d.pages s.some (places l n d) l (l + (n - 1)) (n - 1) words refl)
          ∙ ap (λ (es : List Extent). lookup es (l + (n - 1))) e
          ∙ lookup-after (extent l (first_place l n d) c) [] (l + (n - 1)) (omega (arith, short c e))))

-- a write of n pages from line l on
pub write-grows : (l n : ℕ) (d : Device) → SoundDevice d → 0 < n → n ≤ free d → l + n ≤ lines d
    → length (extents (puts l n d)) + left_join d.pages (extent l (first_place l n d) 1) (extents d)
    ≡ starts_before l (extents d) + ends_after (l + n) (extents d) + length (pieces l n d)
unfolding puts pieces places
write-grows l n d s z f h =
    let t = length-targets l n d in
    rw t at (puts_grow l (targets l n d) d s (targets_open l n d f) (omega (arith, t)) (omega (arith, t)))

-- ---- the trim

module _ (k l n : ℕ) (d : Device) (s : SoundDevice d) (z : 0 < n) (h : l + n ≤ lines d) where
  pub trim-grows : length (extents (trimmed k l n d)) ≡ starts_before l (extents d) + ends_after (l + n) (extents d)
  unfolding extents trimmed with_table
  trim-grows = trim-count d.pages s.some l n d.table z h (table-lines d s)

  pub trim-lines : length (extents (trimmed k l n d)) ≤ lines d
  trim-lines = omega (arith, extents-lines (trimmed k l n d), trimmed-lines k l n d)
