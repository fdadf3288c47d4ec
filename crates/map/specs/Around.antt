-- Where a range meets the extents in use: the numbers of `Counts`, and the last extent before a slot.
use Prim.Native.Nat.{ℕ, zero, suc, ◌+◌, ◌-◌, ◌≤◌, ◌<◌}
use Rattle.std.specs.Prelude.{◌≡◌, Bool, List, ltb, length}
use Rattle.std.proofs.Math.Path.{refl, sym, ap}
use Rattle.std.proofs.Common.{◌∙◌}
use Rattle.std.proofs.Math.Bool.{false}
use native.Mathlib.Omega.{arith}
use Rattle.rules.specs.Counting.{one}
use Rattle.rules.specs.Extents.{none, end, joinable, slot, slots_from}
use Rattle.rules.specs.Lent.{Lent, in_use}
use Rattle.rules.specs.Device.{extents, device_of}
use Rattle.rules.specs.Request.{trimmed}
use Rattle.rules.specs.declared.Extent.{Extent}
use Rattle.laws.specs.Rows.{Rows}
use Rattle.laws.specs.Sound.{Shaped, SoundState}
use Rattle.laws.specs.Slots.{slots_at, slots_length}
use Rattle.laws.specs.Counts.{starts_before, ends_after, left_join, tally_le, left-none, left-last}
use Rattle.laws.specs.Growth.{trim-grows}
use Rattle.laws.specs.States.{device-lines, extents-in_use, state-storable}
use Rattle.map.specs.Halved.{ends_by, ends-both}
use Rattle.map.specs.declared.Sides.{Sides}

-- ---- where a range meets them

-- the logical pages from l up to e: the first slot that ends after l, how many extents start before l, and how many end after e begins
pub record Beside (l e : ℕ) (es : List Extent) (s : Sides) : Type 0 where
  pub first : s.first ≡ ends_by l es
  pub before : s.before ≡ starts_before l es
  pub after : s.after ≡ ends_after e es

module _ (l : ℕ) (ws : List ℕ) (u k : ℕ) where
  -- k of u slots
  pub starts_le : k ≡ starts_before l (slots_from ws 0 u) → k ≤ u
  starts_le h = omega (arith, tally_le (λ x. ltb x.logical l) (slots_from ws 0 u), slots_length ws 0 u)

  pub ends_le : k ≡ ends_after l (slots_from ws 0 u) → k ≤ u
  ends_le h = omega (arith, tally_le (λ x. ltb l (end x)) (slots_from ws 0 u), slots_length ws 0 u)

  -- those that do not end by l
  pub ends_others : k ≡ ends_by l (slots_from ws 0 u) → (k ≤ u) × (u - k ≡ ends_after l (slots_from ws 0 u))
  ends_others h =
      let both = ends-both l (slots_from ws 0 u) in
      let size = slots_length ws 0 u in
      (omega arith, omega arith)

-- the extents before a range and those after it are at most twice the slots
pub few_around : (s : Lent) → Shaped s → SoundState s → (l e : ℕ) → starts_before l (in_use s) + ends_after e (in_use s) ≤ 16384
few_around s h z l e =
    omega (
      arith,
      tally_le (λ x. ltb x.logical l) (in_use s),
      tally_le (λ x. ltb e (end x)) (in_use s),
      slots_length s.extent_words 0 s.head.used,
      z.few,
      h.sizes.m-high,
    )

-- a trim leaves those
pub trim-nodes : (s : Lent) → Shaped s → SoundState s → (k l n : ℕ) → 0 < n → l + n ≤ s.head.logical
    → length (extents (trimmed k l n (device_of s))) ≡ starts_before l (in_use s) + ends_after (l + n) (in_use s)
trim-nodes s h z k l n some inside =
    trim-grows k l n (device_of s) (state-storable s h z).sound some (omega (arith, device-lines s))
    ∙ ap (λ es. starts_before l es + ends_after (l + n) es) (extents-in_use s h z)

-- ---- the last extent before a slot

-- f, coming next, is joinable with it
unfoldable pub joins_before : ℕ → Extent → ℕ → List ℕ → Bool
joins_before n f zero ws = false
joins_before n f (suc i) ws = joinable n (slot ws i) f

-- it is the only one of all with which f can be joinable
pub joins-before : (n hi : ℕ) (f : Extent) (ws : List ℕ) (u before : ℕ) → Rows n 0 none hi (slots_from ws 0 u) → before ≡ starts_before f.logical (slots_from ws 0 u)
    → one (joins_before n f before ws) ≡ left_join n f (slots_from ws 0 u)
unfolding joins_before
joins-before n hi f ws u zero h e = sym (left-none n hi f.logical f (slots_from ws 0 u) 0 none h refl (sym e))
joins-before n hi f ws u (suc i) h e =
    let most = tally_le (λ x. ltb x.logical f.logical) (slots_from ws 0 u) in
    let at = slots_at ws 0 u i i (slot ws 0) (omega (arith, slots_length ws 0 u)) (omega arith) in
    sym (left-last n hi f.logical f (slots_from ws 0 u) 0 none i (slot ws 0) h refl (omega arith) ∙ ap (λ (x : Extent). one (joinable n x f)) at)

pub none_before : (n before : ℕ) (f : Extent) (ws : List ℕ) → before < 1 → false ≡ joins_before n f before ws
unfolding joins_before
none_before n before f ws h = let e : before ≡ 0 = omega arith in rw e

-- x is the extent in front of slot `before`
pub last-joins : (n before : ℕ) (f x : Extent) (ws : List ℕ) → 1 ≤ before → x ≡ slot ws (before - 1) → joinable n x f ≡ joins_before n f before ws
unfolding joins_before
last-joins n before f x ws h g =
    let e : suc (before - 1) ≡ before = omega arith in
    ap (λ (y : Extent). joinable n y f) g ∙ ap (λ (b : ℕ). joins_before n f b ws) e
