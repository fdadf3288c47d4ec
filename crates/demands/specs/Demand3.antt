-- Demand 3. Let a sound device have B blocks of N pages. Take an in-range write of n pages, n from 1 to N, with a new request number and answer buffers
-- long enough. If the extents in use plus n plus 1 fit in the slots, or there's a slot for every logical page, then reclaiming until nothing is stale takes
-- at most B-1 reclaims, after which that write is accepted. No reclaim on the way raises the count of extents, or, if the flash is erased from each block's
-- fill on and the host copies and erases as in demand 2, changes any page's contents.
-- This is the statement; `demand_3` (Proved) proves it.
use Rattle.std.specs.Prelude.{ℕ, zero, suc, ◌+◌, ◌-◌, ◌≤◌, ◌<◌, cond, ◌≡◌, List, [], ◌⊎◌, eqb, length, get_or}
use Rattle.rules.specs.Lent.{Lent}
use Rattle.rules.specs.Device.{device_of}
use Rattle.rules.specs.Calls.{Call, lists, buffer, call}
use Rattle.rules.specs.declared.Head.{Head}
use Rattle.demands.specs.Flash.{Cell}
use Rattle.demands.specs.Host.{Ask, reads, World, step, ErasedFromFill, begin}

-- ---- what is asked

-- a write of n pages from line l on with number k, to a device with head h: in range, n from 1 to N, a new number; and the extents in use plus n plus 1
-- fit in the slots, or there is a slot for every logical page
pub record Asked (h : Head) (k l n : ℕ) : Type 0 where
  pub some : 1 ≤ n
  pub block : n ≤ h.pages
  pub inside : l + n ≤ h.logical
  pub newer : h.last.number < k
  pub slots : (h.used + n + 1 ≤ h.slots) ⊎ (h.logical ≤ h.slots)

-- an answer buffer long enough is as long as the answer: 3 words a piece of a write, 1 a copied page of a reclaim
abbrev pub LongEnough : Call → Lent → Type 0
LongEnough c s = length (lists c (device_of s)) ≤ length (buffer c)

-- ---- reclaiming until nothing is stale

-- the stale pages that a report gives
unfoldable pub stale_of : Lent → ℕ
stale_of s = get_or (call Call.report s).counts 2 0

abbrev pub reclaiming : List ℕ → Ask
reclaiming out = record { request = Call.reclaim out; contents = [] }

-- the buffers from the next reclaim on
abbrev pub later : (ℕ → List ℕ) → ℕ → List ℕ
later outs i = outs (suc i)

-- reclaims while the report says that pages are stale, but at most k; the reclaims are lent the buffers outs 0, outs 1, ..
unfoldable pub until : ℕ → (ℕ → List ℕ) → World → World
until zero outs w = w
until (suc k) outs w = let r = until k (later outs) (step (reclaiming (outs 0)) w) in cond (eqb (stale_of w.state) 0) w r

-- how many it makes
unfoldable pub times : ℕ → (ℕ → List ℕ) → World → ℕ
times zero outs w = 0
times (suc k) outs w = let r = times k (later outs) (step (reclaiming (outs 0)) w) in cond (eqb (stale_of w.state) 0) 0 (suc r)

-- Each holds of every reclaim on the way: of its buffer, and of the world that it finds
abbrev pub Way : (List ℕ → World → Type 0) → ℕ → (ℕ → List ℕ) → World → Type 0
Way Each zero outs w = Unit {0}
Way Each (suc k) outs w = ((stale_of w.state ≡ 0 → ⊥) → Each (outs 0) w × Way Each k (later outs) (step (reclaiming (outs 0)) w))

-- its buffer is long enough
abbrev pub Roomy : List ℕ → World → Type 0
Roomy out w = LongEnough (Call.reclaim out) w.state

-- it is accepted, and does not raise the count of extents
pub record Gains (out : List ℕ) (w : World) : Type 0 where
  pub accepted : (call (Call.reclaim out) w.state).refusal ≡ 0
  pub used : (step (reclaiming out) w).state.head.used ≤ w.state.head.used

-- it changes no page's contents
pub record Spares (out : List ℕ) (w : World) : Type 0 where
  pub same : (l : ℕ) → l < w.state.head.logical → reads (step (reclaiming out) w).state (step (reclaiming out) w).flash l ≡ reads w.state w.flash l

-- ---- the demand

-- what comes of reclaiming until nothing is stale, but at most `limit` times, from state s on flash f
pub record Settles (s : Lent) (f : List Cell) (limit : ℕ) (outs : ℕ → List ℕ) (write : Call) : Type 0 where
  pub clean : stale_of (until limit outs (begin s f)).state ≡ 0
  pub few : times limit outs (begin s f) ≤ s.head.blocks - 1
  pub way : Way Gains limit outs (begin s f)
  pub same : ErasedFromFill s f → Way Spares limit outs (begin s f)
  pub accepted : LongEnough write (until limit outs (begin s f)).state → (call write (until limit outs (begin s f)).state).refusal ≡ 0

abbrev pub Demand3 : Lent → Type 0
Demand3 s = (f : List Cell) (k l n : ℕ) (out : List ℕ) (outs : ℕ → List ℕ) (limit : ℕ)
    → Asked s.head k l n → s.head.blocks - 1 ≤ limit → Way Roomy limit outs (begin s f) → Settles s f limit outs (Call.write k l n out)
