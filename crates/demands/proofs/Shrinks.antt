-- T-12, proved: a reclaim of a sound state needs no slot more, so the test of 6 refuses nothing behind those of 1, 2 and 8.
use Rattle.std.specs.Prelude.{ℕ, ◌≤◌, Bool, true, false, not, ◌≡◌, refl, List, eqb, length}
use Rattle.std.proofs.Math.Bool.{cond}
use Rattle.std.proofs.Common.{true≢false, ◌∙◌, arith}
use Rattle.std.proofs.Math.Path.{sym, ap}
use borrow.Author.Tests.{eqb-false, not-false, le-ltb}
use Rattle.rules.specs.Lent.{Lent}
use Rattle.rules.specs.Shape.{shaped}
use Rattle.rules.specs.Sound.{sound}
use Rattle.rules.specs.Device.{stale, extents, device_of, head_of, words_of}
use Rattle.rules.specs.Answers.{number}
use Rattle.rules.specs.Calls.{Call, leaves, refused, accepted_on, call}
use Rattle.rules.specs.declared.Refusal.{Refusal}
use Rattle.laws.specs.Encoded.{reclaim-shrinks}
use Rattle.laws.specs.Kept.{device-storable, device-is}
use Rattle.demands.specs.Demand1.{order, given, first_given}
use Rattle.demands.specs.Struck.{order_in01, answer_by, SixStruck}
use Rattle.demands.proofs.Refusals.{first_applies}

-- a row that stands in both lists: what follows it is asked where it does not apply
behind : (t : Bool) (r : Refusal) (x y : ℕ) → (t ≡ false → x ≡ y) → cond t (number r) x ≡ cond t (number r) y
behind true r x y e = refl
behind false r x y e = e refl

-- a row that never applies there
absent : (t : Bool) (r : Refusal) (x : ℕ) → t ≡ false → cond t (number r) x ≡ x
absent true r x e = absurd (true≢false e)
absent false r x e = refl

-- 1, 2, 8, 7 or none
no_six : (a b d t : Bool) (x : ℕ) → x ≡ cond a 1 (cond b 2 (cond d 8 (cond t 7 0))) → x ≡ 6 → ⊥
no_six true b d t x e h = omega arith
no_six false true d t x e h = omega arith
no_six false false true t x e h = omega arith
no_six false false false true x e h = omega arith
no_six false false false false x e h = omega arith

module _ (out : List ℕ) (s : Lent) where
  abbrev c : Call
  c = Call.reclaim out

  module _ (z : shaped s ≡ true) (e : sound s ≡ true) (h : given c s Refusal.NothingStale ≡ false) where
    -- the extents of the map are those in use
    in_use_lem : length (extents (device_of s)) ≡ s.head.used
    unfolding words_of head_of
    in_use_lem = ap (λ (t : Lent). t.head.used) (device-is s z e)

    shrinks : length (extents (leaves c (device_of s))) ≤ s.head.used
    unfolding leaves
    shrinks =
        let some = eqb-false (stale (device_of s)) 0 h in
        omega (arith, in_use_lem, reclaim-shrinks (device_of s) (device-storable s z e).sound (omega arith))

    few : s.head.used ≤ s.head.slots
    unfolding device_of
    few = omega (arith, in_use_lem, (device-storable s z e).few)

    unmet : given c s Refusal.NoNodes ≡ false
    unmet = le-ltb s.head.slots (length (extents (leaves c (device_of s)))) (omega (arith, shrinks, few))

  same : first_given order_in01 (given c s) ≡ first_given (order c) (given c s)
  unfolding first_given
  same =
      behind (not (shaped s)) Refusal.Shape _ _ (λ z.
      behind (not (sound s)) Refusal.Damaged _ _ (λ e.
      behind (eqb (stale (device_of s)) 0) Refusal.NothingStale _ _ (λ h.
      absent (given c s Refusal.NoNodes) Refusal.NoNodes _ (unmet (not-false (shaped s) z) (not-false (sound s) e) h))))

  never : first_given order_in01 (given c s) ≡ 6 → ⊥
  unfolding first_given
  never = no_six (given c s Refusal.Shape) (given c s Refusal.Damaged) (given c s Refusal.NothingStale) (given c s Refusal.OutShort) _ same

  stays : answer_by order_in01 c s ≡ call c s
  unfolding answer_by call
  stays = ap (λ (r : ℕ). cond (eqb r 0) (accepted_on c s) (refused r c s)) (same ∙ sym (first_applies s c))

  pub struck : SixStruck out s
  struck = record { shrinks = shrinks; unmet = unmet; never = never; same = same; stays = stays }
