-- 02, T-12. 01 lets reclaim answer 6. Extents lie inside blocks and are moved in order, so their count can't rise: from any sound state it never happens, the
-- test is taken out, reclaim is struck from 6's row, and every answer stays.
-- This is the statement; `six-struck` (Proved) proves it.
use Rattle.std.specs.Prelude.{ℕ, ◌≤◌, true, false, cond, ◌≡◌, List, [], ◌∷◌, eqb, length}
use Rattle.rules.specs.Lent.{Lent}
use Rattle.rules.specs.Shape.{shaped}
use Rattle.rules.specs.Sound.{sound}
use Rattle.rules.specs.Device.{extents, device_of}
use Rattle.rules.specs.Answers.{Outcome}
use Rattle.rules.specs.Calls.{Call, leaves, refused, accepted_on, call}
use Rattle.rules.specs.declared.Refusal.{Refusal}
use Rattle.demands.specs.Demand1.{order, given, first_given}

-- the refusals of a reclaim in the order of 01, with the 6 that is struck
abbrev pub order_in01 : List Refusal
order_in01 = Refusal.Shape ∷ Refusal.Damaged ∷ Refusal.NothingStale ∷ Refusal.NoNodes ∷ Refusal.OutShort ∷ []

-- what comes back and what is left where a call is refused by a list of refusals, in its order
unfoldable pub answer_by : List Refusal → Call → Lent → Outcome Lent
answer_by rs c s = cond (eqb (first_given rs (given c s)) 0) (accepted_on c s) (refused (first_given rs (given c s)) c s)

-- of a reclaim with any answer buffer, on any lent state
pub record SixStruck (out : List ℕ) (s : Lent) : Type 0 where
  -- from a sound state in which something is stale: the map afterwards, joined, has at most as many extents as before,
  pub shrinks : shaped s ≡ true → sound s ≡ true → given (Call.reclaim out) s Refusal.NothingStale ≡ false
      → length (extents (leaves (Call.reclaim out) (device_of s))) ≤ s.head.used
  -- so 6 does not apply
  pub unmet : shaped s ≡ true → sound s ≡ true → given (Call.reclaim out) s Refusal.NothingStale ≡ false
      → given (Call.reclaim out) s Refusal.NoNodes ≡ false
  -- the list of 01 never gives 6; it gives the number that the list without 6 gives
  pub never : first_given order_in01 (given (Call.reclaim out) s) ≡ 6 → ⊥
  pub same : first_given order_in01 (given (Call.reclaim out) s) ≡ first_given (order (Call.reclaim out)) (given (Call.reclaim out) s)
  -- every answer stays: refusal, count, head, words and answer buffer
  pub stays : answer_by order_in01 (Call.reclaim out) s ≡ call (Call.reclaim out) s
