-- The extents after a write: its pieces put in where the range was cut out, at slot `before`, the first of them joined to the extent before it
-- where rule 2 asks.
use Rattle.std.specs.Prelude.{ℕ, ◌+◌, ◌-◌, ◌%◌, ◌≤◌, ◌<◌, Bool, ◌≡◌, length, get_or}
use Rattle.std.proofs.Math.Path.{refl, sym, ap}
use Rattle.std.proofs.Common.{◌∙◌, subst, arith}
use mathlib.Core.List.{List, [], ◌∷◌}
use Rattle.rules.specs.Counting.{one}
use Rattle.rules.specs.Extents.{none, extent, lookup, joinable, runs}
use Rattle.rules.specs.Device.{Device, lines, free, extents}
use Rattle.rules.specs.Placement.{puts_at, places_at, targets, puts, places, pieces}
use Rattle.rules.specs.declared.Extent.{Extent}
use Rattle.laws.specs.Device.{SoundDevice}
use Rattle.laws.specs.Rows.{Rows}
use Rattle.laws.specs.Runs.{runs-rows}
use Rattle.laws.specs.Cut.{cut}
use Rattle.laws.specs.Write.{place}
use Rattle.laws.specs.Counts.{tally, starts_before, left_join, tip, runs-tip}
use Rattle.laws.specs.Placed.{Opens, length-places, places-small}
use Rattle.laws.specs.Order.{targets_open, length-targets, length-placed}
use Rattle.laws.specs.Encoded.{write-extents}
use Rattle.laws.specs.Growth.{first_place, new-page, next-page, place-new, place-some, pieces-begin}
use Rattle.laws.specs.States.{extents-lookup, extents-rows}
use Rattle.putting.specs.Pieces.{put_in, place-put}

-- whether a piece is joinable does not hang on its count
same-join : (n l p c : ℕ) (es : List Extent) → left_join n (extent l p 1) es ≡ left_join n (extent l p c) es
unfolding tally joinable
same-join n l p c [] = refl
same-join n l p c (e ∷ es) = ap (λ (x : ℕ). one (joinable n e (extent l p 1)) + x) (same-join n l p c es)

module _ (l n : ℕ) (d : Device) (s : SoundDevice d) (some : 0 < n) (enough : n ≤ free d) (inside : l + n ≤ lines d) where
  opens : Opens l (targets l n d) d
  opens = targets_open l n d enough

  size : l + length (targets l n d) ≡ l + n
  size = ap (λ (x : ℕ). l + x) (length-targets l n d)

  fits : l + length (targets l n d) ≤ lines d
  fits = omega (arith, size)

  rows : Rows d.pages l none (l + n) (pieces l n d)
  unfolding pieces places
  rows =
      runs-rows d.pages s.some (places_at l (targets l n d) d) l (l + n) (places-small l (targets l n d) d s opens fits)
      (omega (arith, length-places l (targets l n d) d, length-targets l n d))

  pub piece-rows : Rows d.pages l none (l + n) (pieces l n d)
  piece-rows = rows

  tip-is : (q : ℕ) → tip q (pieces l n d) ≡ get_or (places l n d) (n - 1) none + 1
  unfolding pieces
  tip-is q = runs-tip d.pages l (places l n d) q (n - 1) (omega (arith, length-placed l n d)) (place-some l n d s enough inside (n - 1) (omega arith))

  left : lookup (extents d) l ≡ first_place l n d → first_place l n d % d.pages ≡ 0
  left e = absurd (new-page d s (first_place l n d) (place-new l n d s enough inside 0 some) l (sym (extents-lookup d s l) ∙ e))

  right : lookup (extents d) (l + n) ≡ tip none (pieces l n d) → tip none (pieces l n d) % d.pages ≡ 0
  right e =
      let w = place-new l n d s enough inside (n - 1) (omega arith) in
      ap (λ (x : ℕ). x % d.pages) (tip-is none)
      ∙ next-page d s (get_or (places l n d) (n - 1) none) w (l + n) (sym (extents-lookup d s (l + n)) ∙ e ∙ tip-is none)

  pub put-extents : (i : ℕ) (joined : Bool) → i ≡ starts_before l (extents d) → one joined ≡ left_join d.pages (extent l (first_place l n d) 1) (extents d)
      → put_in i joined (pieces l n d) (cut l (l + n) (extents d)) ≡ extents (puts l n d)
  unfolding puts
  put-extents i joined e j =
      let b = pieces-begin l n d s enough inside some in
      let f = extent l (first_place l n d) b.count in
      let is : pieces l n d ≡ f ∷ b.rest = b.is in
      ap (λ (ps : List Extent). put_in i joined ps (cut l (l + n) (extents d))) is
      ∙ sym (place-put d.pages (lines d) l (l + n) f b.rest (extents d) inside
      (subst (λ (ps : List Extent). Rows d.pages l none (l + n) ps) is rows) (extents-rows d s) refl left
      (subst (λ (ps : List Extent). lookup (extents d) (l + n) ≡ tip none ps → tip none ps % d.pages ≡ 0) is right)
      i joined e (j ∙ same-join d.pages l (first_place l n d) b.count (extents d)))
      ∙ ap (λ (ps : List Extent). place d.pages l (l + n) ps (extents d)) (sym is)
      ∙ written
    where
      written : place d.pages l (l + n) (pieces l n d) (extents d) ≡ extents (puts_at l (targets l n d) d)
      written = unfold pieces places in ap (λ (x : ℕ). place d.pages l x (runs d.pages l (places_at l (targets l n d) d)) (extents d)) (sym size) ∙ write-extents l (targets l n d) d s opens fits
