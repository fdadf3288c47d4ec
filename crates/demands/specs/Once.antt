-- The double refund. A queue crashed, the host sent a write again, and it was applied twice: the old pages were struck off their block's count twice. Here
-- a write or trim is applied at most once, whatever is sent again, at once or after any further requests.
-- This is the statement; `applied-once` (Proved) proves it.
use Rattle.std.specs.Prelude.{ℕ, ◌+◌, ◌-◌, ◌/◌, ◌^◌, ◌≤◌, ◌<◌, Bool, true, false, cond, ◌&&◌, ◌||◌, ◌≡◌, List, [], ◌∷◌, eqb, leb}
use Rattle.rules.specs.Counting.{count}
use Rattle.rules.specs.Lent.{valid_of}
use Rattle.rules.specs.Device.{Device, at, mapped, device_of}
use Rattle.rules.specs.Request.{used_up}
use Rattle.rules.specs.Calls.{Call, buffer, call}
use Rattle.rules.specs.declared.Refusal.{Refusal}
use Rattle.demands.specs.Host.{Ask, World, step, run}
use Rattle.demands.specs.Requests.{carries, number_of, start_of, count_of, again}
use Rattle.demands.specs.Demand1.{given}

-- ---- a request that does nothing

-- request b in world v is refused: 3 where it is not in range, and otherwise as one whose number is used up (`used_up`: 4). Nothing changes: not the head, not a
-- lent word, not the answer buffer, not the flash
pub record Nothing (b : Ask) (v : World) : Type 0 where
  pub outside : given b.request v.state Refusal.Range ≡ true → (call b.request v.state).refusal ≡ 3
  pub inside : given b.request v.state Refusal.Range ≡ false → used_up (call b.request v.state).refusal ≡ true
  pub state : (call b.request v.state).after ≡ v.state
  pub out : (call b.request v.state).out ≡ buffer b.request
  pub flash : (step b v).flash ≡ v.flash
  pub world : step b v ≡ v

-- ---- the repeats left out

-- c is a write or trim whose number is not above one of ks
unfoldable pub repeats : Call → List ℕ → Bool
repeats c [] = false
repeats c (k ∷ ks) = (carries c && leb (number_of c) k) || repeats c ks

-- the numbers accepted so far: ks, and that of request a if it is a write or trim that is accepted in world w
unfoldable pub noted : Ask → World → List ℕ → List ℕ
noted a w ks = cond (carries a.request && eqb (call a.request w.state).refusal 0) (number_of a.request ∷ ks) ks

-- the requests without those that repeat: writes and trims whose number is not above one accepted before them; ks are accepted already
unfoldable pub once : List ℕ → List Ask → World → List Ask
once ks [] w = []
once ks (a ∷ rest) w =
    let without = once ks rest w in
    let with = a ∷ once (noted a w ks) rest (step a w) in
    cond (repeats a.request ks) without with

-- ---- what a block holds of a request's range: how many of its pages are mapped into block b

unfoldable pub held : ℕ → Call → Device → ℕ
held b c d = count (count_of c) (λ i. mapped d (start_of c + i) && eqb (at d (start_of c + i) / d.pages) b)

-- ---- the theorem, of a world that any history has reached

pub record AppliedOnce (w : World) : Type 0 where
  -- the last number never falls
  pub rises : (asks : List Ask) → w.state.head.last.number ≤ (run asks w).state.head.last.number
  -- once a, a write or trim, has been accepted, every later write or trim b with a number not above a's is refused and does nothing
  pub refuses : (a b : Ask) (further : List Ask) → carries a.request ≡ true → carries b.request ≡ true
      → (call a.request w.state).refusal ≡ 0 → number_of b.request ≤ number_of a.request → Nothing b (run further (step a w))
  -- the very same request is refused exactly 4
  pub same : (a : Ask) (new : List ℕ) (further : List Ask) → carries a.request ≡ true
      → (call a.request w.state).refusal ≡ 0 → (call (again a.request new) (run further (step a w)).state).refusal ≡ 4
  -- a 64-bit number is never above the largest: once that is the last number, every write and trim in range is refused so
  pub largest : (a : Ask) → carries a.request ≡ true → number_of a.request < 2 ^ 64 → w.state.head.last.number ≡ 2 ^ 64 - 1
      → given a.request w.state Refusal.Range ≡ false → used_up (call a.request w.state).refusal ≡ true
  -- an accepted write or trim lowers each block's valid count once for each page of its range that the block held, and raises it once for each that it
  -- holds now
  pub lowers : (a : Ask) → carries a.request ≡ true → (call a.request w.state).refusal ≡ 0 → (b : ℕ) → b < w.state.head.blocks
      → valid_of (step a w).state b + held b a.request (device_of w.state) ≡ valid_of w.state b + held b a.request (device_of (step a w).state)
  -- whatever is sent again, everything is as in the history with the repeats left out: the state and the flash, and so each valid count, free, live and stale
  pub leaves : (asks : List Ask) → run asks w ≡ run (once [] asks w) w
  pub valid : (asks : List Ask) (b : ℕ) → valid_of (run asks w).state b ≡ valid_of (run (once [] asks w) w).state b
  pub counts : (asks : List Ask) → (call Call.report (run asks w).state).counts ≡ (call Call.report (run (once [] asks w) w).state).counts
