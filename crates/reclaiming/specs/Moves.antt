-- What the slots must be for a pass that moves those of one block and leaves the others as they are; and that such a pass joins all that is to be joined.
use Rattle.std.specs.Prelude.{◌≡◌, ℕ, zero, suc, ◌+◌, ◌*◌, ◌/◌, ◌%◌, ◌<◌, ◌≤◌, false, List, [], ◌∷◌, ◌++◌, map, length, ◌≢◌, slice_index}
use Rattle.std.proofs.Math.Path.{refl, sym, ap, ap₂}
use Rattle.std.proofs.Common.{◌∙◌, subst, mod-lt}
use Rattle.std.proofs.Math.Logic.{by_cases}
use native.Mathlib.Omega.{arith}
use Rattle.std.proofs.Math.Decide.{ℕ_discrete}
use Rattle.rules.specs.Extents.{none, extent, joinable, slot, slots_from}
use Rattle.rules.specs.declared.Extent.{Extent}
use Rattle.laws.specs.Norm.{norm, move}
use Rattle.choosing.specs.Covered.{covered}
use Rattle.choosing.specs.Over.{Elsewhere}
use Rattle.choosing.specs.Ranks.{Ranks, Movable, ranks_movable}
use Rattle.reclaiming.specs.Remapped.{ranked_page, place-block, place_else, other_block, push, push-behind}
use Rattle.reclaiming.specs.Slot.{Ends, slot-moved, Pushed, Apart, pushed_there, Packed, packed_slot, packed_step, moved_more}

-- the slots of block v among u may go to block r
pub record Moves (n v r : ℕ) (ws : List ℕ) (u : ℕ) (ranks : List ℕ) : Type 0 where
  pub slots : 3 * u ≤ length ws
  pub zeros : (k : ℕ) → 3 * u ≤ k → k < length ws → slice_index ws k ≡ 0
  pub some : 1 ≤ n
  pub from : v * n + n ≤ none
  pub room : r * n + n ≤ none
  pub ends : Ends ws u
  -- no two neighbours are joinable
  pub apart : (i j : ℕ) → j ≡ suc i → j < u → joinable n (slot ws i) (slot ws j) ≡ false
  -- none lies in block r
  pub free : (i : ℕ) → i < u → (slot ws i).physical / n ≢ r
  pub ranked : Ranks n (covered (slots_from ws 0 u) n v) ranks

module _ (n v r : ℕ) (ws : List ℕ) (u : ℕ) (ranks : List ℕ) (m : Moves n v r ws u ranks) where
  abbrev to : ℕ → ℕ
  to = ranked_page n ranks v r

  pub moves_movable : Movable n v r ranks
  moves_movable = ranks_movable n (covered (slots_from ws 0 u) n v) ranks m.ranked v r m.some m.from m.room

  -- a slot as it stands is not joinable with the one before it: that one stays too, or goes to block r
  stays-apart : (i j : ℕ) → j ≡ suc i → j < u → joinable n (move to (slot ws i)) (slot ws j) ≡ false
  stays-apart i j e h =
      let p = (slot ws i).physical in
      by_cases (ℕ_discrete (p / n) v)
      (λ here. let o : p % n < n = mod-lt p m.some in
      let there = place-block n ranks v r p here (omega (arith, moves_movable.low (p % n) o)) in
      sym (other_block n (move to (slot ws i)) (slot ws j) (λ g. m.free j h (sym g ∙ there))))
      (λ else. ap (λ (q : ℕ). joinable n (extent (slot ws i).logical q (slot ws i).count) (slot ws j)) (place_else n ranks v r p else) ∙ m.apart i j e h)

  pub packed_apart : (ws' : List ℕ) (i w : ℕ) → Packed to n ws i ws' w → i < u → Apart n ws' w (slot ws' i)
  unfolding slots_from push
  packed_apart ws' zero w h l = let first : w ≡ 0 = omega (arith, h.few) in rw first refl
  packed_apart ws' (suc j) w h l =
      let i : suc j ≡ j + 1 = omega arith in
      let before = map (move to) (slots_from ws 0 j) in
      let last = move to (slot ws j) in
      let stand : slots_from ws' 0 w ≡ norm n (before ++ last ∷ []) = h.done ∙ ap (λ (k : ℕ). norm n (map (move to) (slots_from ws 0 k))) i ∙ ap (norm n) (moved_more to ws j) in
      let same : slot ws' (suc j) ≡ slot ws (suc j) = packed_slot to n ws ws' (suc j) w h in
      ap₂ (push n) stand same
      ∙ push-behind n before last (slot ws (suc j)) (stays-apart j (suc j) refl l)
      ∙ sym (ap₂ (λ (es : List Extent) (x : Extent). es ++ x ∷ []) stand same)

  -- slots that lie in other blocks, where none before them has come down
  pub packed_over : (ws' : List ℕ) (i k : ℕ) → i + k ≤ u → Elsewhere ws' i k n v → Packed to n ws i ws' i → Packed to n ws (i + k) ws' (i + k)
  packed_over ws' i zero s f h = let none : i ≡ i + 0 = omega arith in subst (λ (j : ℕ). Packed to n ws j ws' j) none h
  packed_over ws' i (suc k) s f h =
      let j = i + k in
      let next : j + 1 ≡ i + suc k = omega arith in
      let e = slot ws' j in
      let before = packed_over ws' i k (omega arith) (λ l t. f l (omega arith)) h in
      let stands = pushed_there n ws' j j refl (packed_apart ws' j j before (omega arith)) in
      subst (λ (l : ℕ). Packed to n ws l ws' l) next
      (packed_step to n ws ws' ws' j j (j + 1) before
      (subst (λ (x : Extent). Pushed n ws' j x ws' (j + 1))
      (slot-moved to ws' j e.physical (sym (place_else n ranks v r e.physical (f k (omega arith))))) stands))
