-- The words of a fresh device: zeros for the slots and the block records, erased entries for the spare areas.
use Rattle.std.specs.Prelude.{ℕ, zero, suc, ◌+◌, ◌-◌, ◌*◌, ◌≤◌, ◌<◌, ◌≡◌, refl}
use Rattle.std.proofs.Math.Path.{sym, ap}
use Rattle.std.proofs.Common.{ap₂, ◌∙◌}
use mathlib.Core.List.{List, [], ◌∷◌, ◌++◌}
use native.Mathlib.Omega.{arith}
use Rattle.std.proofs.Math.ListN.{length, replicate}
use Rattle.rules.specs.Extents.{none, flat}
use Rattle.rules.specs.Blocks.{stride, records}
use Rattle.rules.specs.Lent.{lent}
use Rattle.rules.specs.Device.{valid, extents, head_of, words_of}
use Rattle.rules.specs.Calls.{fresh_device}
use Rattle.rules.specs.Request.{kept}
use Rattle.rules.specs.declared.Head.{Head}
use Rattle.rules.specs.declared.Extent.{Extent}
use Rattle.laws.specs.Sound.{Sizes}
use Rattle.laws.specs.Shapes.{some-pages, pages_fit}
use Rattle.laws.specs.Runs.{runs_holes}
use Rattle.laws.specs.Fresh.{fresh-valid, fresh-blocks, fresh_lines}

records-zero : (m b : ℕ) (v : ℕ → ℕ) → ((c : ℕ) → b ≤ c → c < b + m → v c ≡ 0) → records (replicate m 0) b v ≡ replicate (stride * m) 0
unfolding records
records-zero zero b v h = refl
records-zero (suc m) b v h =
    let e : stride * suc m ≡ suc (suc (stride * m)) = omega arith in
    ap₂ (λ (x : ℕ) (r : List ℕ). 0 ∷ x ∷ r) (h b (omega arith) (omega arith)) (records-zero m (b + 1) v (λ c p q. h c (omega arith) (omega arith)))
    ∙ ap (λ (k : ℕ). replicate {A = ℕ} k 0) (sym e)

-- the head of a fresh device
abbrev pub fresh_head : ℕ → ℕ → ℕ → ℕ → Head
fresh_head b n l m = record { blocks = b; pages = n; logical = l; slots = m; used = 0; reserve = b - 1; last = kept 0 }

module _ (b n l m : ℕ) (z : Sizes b n l m) where
  none_in : extents (fresh_device b n l m) ≡ []
  unfolding extents fresh_device
  none_in = runs_holes n 0 l

  head-is : head_of (fresh_device b n l m) ≡ fresh_head b n l m
  unfolding head_of fresh_device
  head-is = λ i. record {
    blocks = fresh-blocks b n l m i;
    pages = n;
    logical = fresh_lines b n l m i;
    slots = m;
    used = ap length none_in i;
    reserve = b - 1;
    last = kept 0;
  }

  blocks_are : records (fresh_device b n l m).fills 0 (valid (fresh_device b n l m)) ≡ replicate (stride * b) 0
  unfolding fresh_device
  blocks_are = records-zero b 0 _ (λ c p q. fresh-valid b n l m (some-pages z) (omega (arith, z.b-low)) (pages_fit z) c (omega arith))

  extents_are : flat (extents (fresh_device b n l m)) ++ replicate (3 * (m - length (extents (fresh_device b n l m)))) 0 ≡ replicate (3 * m) 0
  unfolding flat
  extents_are =
      let e : 3 * (m - 0) ≡ 3 * m = omega arith in
      ap (λ (es : List Extent). flat es ++ replicate (3 * (m - length es)) 0) none_in ∙ ap (λ (k : ℕ). replicate {A = ℕ} k 0) e

  pub fresh-words : lent (fresh_head b n l m) (replicate (3 * m) 0) (replicate (stride * b) 0) (replicate (b * n) none) ≡ words_of (fresh_device b n l m)
  unfolding words_of fresh_device extents
  fresh-words = sym (λ i. lent (head-is i) (extents_are i) (blocks_are i) (replicate (b * n) none))
