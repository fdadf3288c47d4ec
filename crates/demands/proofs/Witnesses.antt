-- The hypotheses of the theorems can be met, and what they speak of happens: by computing, on the device of P3 and on the smallest one.
use Rattle.std.specs.Prelude.{ℕ, zero, suc, ◌+◌, ◌-◌, ◌*◌, ◌^◌, ◌≤◌, true, false, not, ◌≡◌, refl, List, [], ◌∷◌, ◌++◌, eqb, take, drop, replicate}
use Rattle.std.proofs.Common.{inl, arith}
use Rattle.rules.specs.Extents.{none}
use Rattle.rules.specs.Blocks.{stride}
use Rattle.rules.specs.Lent.{Lent, lent}
use Rattle.rules.specs.Shape.{shape, shaped}
use Rattle.rules.specs.Sound.{sound}
use Rattle.rules.specs.Device.{Device, at, device_of, words_of}
use Rattle.rules.specs.Answers.{Outcome, refuse}
use Rattle.rules.specs.Makes.{Make, make}
use Rattle.rules.specs.Calls.{Call, call, sizes_only, fresh}
use Rattle.rules.specs.Request.{kept}
use Rattle.rules.specs.Opened.{opened}
use Rattle.rules.specs.Cases.{answer_of, same_by}
use Rattle.rules.specs.declared.Refusal.{Refusal}
use Rattle.laws.specs.Cells.{replicate-at}
use Rattle.laws.specs.Sound.{Storable}
use Rattle.laws.specs.Kept.{device-storable}
use Rattle.demands.specs.Flash.{Cell, erased, see}
use Rattle.demands.specs.Host.{Ask, Op, programs, copies, to_do, ops, does, doing, marks, marking, shown, reads, World, step, run, ErasedFromFill, begin}
use Rattle.demands.specs.Requests.{carries}
use Rattle.demands.specs.Demand1.{given}
use Rattle.demands.specs.Demand2.{trace, begin_fresh}
use Rattle.demands.specs.Demand3.{Asked, LongEnough, stale_of, until, times, Way, Roomy}
use Rattle.demands.specs.Once.{repeats, noted, once}
use Rattle.demands.specs.Whole.{HasRoom}

-- ---- requests, with answer buffers of 48 words

abbrev write : ℕ → ℕ → ℕ → List ℕ → Ask
write k l n xs = record { request = Call.write k l n (replicate 48 0); contents = xs }

abbrev reclaim : Ask
reclaim = record { request = Call.reclaim (replicate 48 0); contents = [] }

-- a fresh device of some sizes on erased flash, made in words that held something else
abbrev started : ℕ → ℕ → ℕ → ℕ → World
started b n l m = begin_fresh (fresh b n l m (replicate (3 * m) 7) (replicate (stride * b) 7) (replicate (b * n) 7)).after

-- P3: a device with 8 extents in use, of which 2 pages are stale
abbrev p3 : List Ask
p3 = write 1 0 2 [] ∷ write 2 4 1 [] ∷ write 3 10 4 [] ∷ write 4 6 1 [] ∷ write 5 11 2 [] ∷ write 6 7 1 [] ∷ write 7 9 1 [] ∷ []

abbrev device3 : Device
device3 = record {
  pages = 16;
  slots = 16;
  table = 0 ∷ 1 ∷ none ∷ none ∷ 2 ∷ none ∷ 7 ∷ 10 ∷ none ∷ 11 ∷ 3 ∷ 8 ∷ 9 ∷ 6 ∷ replicate 18 none;
  fills = 12 ∷ 0 ∷ 0 ∷ 0 ∷ [];
  spare = 0 ∷ 1 ∷ 4 ∷ 10 ∷ 11 ∷ 12 ∷ 13 ∷ 6 ∷ 11 ∷ 12 ∷ 7 ∷ 9 ∷ replicate 52 none;
  reserve = 3;
  last = kept 7;
}

abbrev sound3 : Lent
sound3 = words_of device3

-- and the state before the last of P3's writes
abbrev nearly3 : Lent
nearly3 = words_of record {
  pages = 16;
  slots = 16;
  table = 0 ∷ 1 ∷ none ∷ none ∷ 2 ∷ none ∷ 7 ∷ 10 ∷ none ∷ none ∷ 3 ∷ 8 ∷ 9 ∷ 6 ∷ replicate 18 none;
  fills = 11 ∷ 0 ∷ 0 ∷ 0 ∷ [];
  spare = 0 ∷ 1 ∷ 4 ∷ 10 ∷ 11 ∷ 12 ∷ 13 ∷ 6 ∷ 11 ∷ 12 ∷ 7 ∷ replicate 53 none;
  reserve = 3;
  last = kept 6;
}

-- every word of a state
abbrev words_in : Lent → List ℕ
words_in s =
    s.head.blocks ∷ s.head.pages ∷ s.head.logical ∷ s.head.slots ∷ s.head.used ∷ s.head.reserve ∷ s.head.last.number
    ∷ (s.extent_words ++ s.block_words ++ s.spare)

abbrev blank : List Cell
blank = replicate 64 erased

-- a make that is no fresh: it leaves the device of P3, in words of its lengths
abbrev restoring : Make
restoring = record {
  refusal = λ of_extents of_blocks of_spare. refuse (not (shape sound3.head of_extents of_blocks of_spare)) Refusal.Shape 0;
  device = device_of sound3;
  head = sizes_only 0 0 0 0;
}

abbrev restored : Outcome Lent
restored = make restoring (replicate 48 7) (replicate (stride * 4) 7) (replicate 64 7)

-- buffers of 10 words for the reclaims
abbrev tens : ℕ → List ℕ
tens i = replicate 10 0

-- P4: the last of them sent again, at once and after a reclaim; and two that were not sent before
abbrev p4 : List Ask
p4 = write 7 9 1 [] ∷ reclaim ∷ write 7 9 1 [] ∷ write 3 0 1 [] ∷ write 8 0 1 [] ∷ []

-- each refusal, and none: no sizes; labels that are all 0; no page; number 0; P12's third write; a trim like P10's; no answer buffer; nothing stale
abbrev small : Lent
small = (started 3 1 1 1).state

abbrev refusals : List ℕ
refusals =
    (call Call.report (lent (sizes_only 0 0 0 0) [] [] [])).refusal
    ∷ (call Call.report (lent small.head small.extent_words small.block_words (0 ∷ 0 ∷ 0 ∷ []))).refusal
    ∷ (call (Call.write 1 0 0 []) small).refusal
    ∷ (call (Call.write 0 0 1 []) small).refusal
    ∷ (call (Call.write 3 0 1 []) (run (write 1 0 1 [] ∷ write 2 0 1 [] ∷ []) (started 3 1 1 1)).state).refusal
    ∷ (call (Call.trim 2 1 1) (run (write 1 0 3 [] ∷ []) (started 3 3 3 1)).state).refusal
    ∷ (call (Call.write 1 0 1 []) small).refusal
    ∷ (call (Call.reclaim []) small).refusal
    ∷ (call Call.report small).refusal ∷ []

-- a fresh device whose last number is the largest
abbrev worn : Lent
worn = lent (record { blocks = 3; pages = 1; logical = 1; slots = 1; used = 0; reserve = 2; last = kept (2 ^ 64 - 1) }) small.extent_words small.block_words small.spare

-- two blocks of two pages, each with one page left, and the reserve
abbrev halved : Lent
halved = words_of record { pages = 2; slots = 4; table = 0 ∷ 2 ∷ []; fills = 1 ∷ 1 ∷ 0 ∷ []; spare = 0 ∷ none ∷ 1 ∷ none ∷ none ∷ none ∷ []; reserve = 2; last = kept 2 }

-- one extent in the only slot, over a block's edge, and a stale page
abbrev over_the_edge : Lent
over_the_edge =
    lent (record { blocks = 4; pages = 2; logical = 2; slots = 1; used = 1; reserve = 3; last = kept 1 }) (0 ∷ 1 ∷ 2 ∷ []) (replicate (stride * 4) 1) (replicate 8 0)

-- the answer to number 8, a write of so many pages from page 0 on
abbrev sent : ℕ → Lent → List ℕ
sent n s = let c = Call.write 8 0 n (replicate 48 0) in answer_of c (call c s)

unroomy : (b : ℕ) → HasRoom 2 halved b → ⊥
unfolding opened
unroomy zero r = omega (arith, r.2)
unroomy (suc zero) r = omega (arith, r.2)
unroomy (suc (suc zero)) r = r.1 refl
unroomy (suc (suc (suc b))) r = omega (arith, r.0)

pub record Met : Type 0 where
  -- demand 1: each refusal is given somewhere, and a call is accepted
  pub each-given : same_by eqb refusals (1 ∷ 2 ∷ 3 ∷ 4 ∷ 5 ∷ 6 ∷ 7 ∷ 8 ∷ 0 ∷ []) ≡ true
  -- demand 2: an accepted fresh on words that held something else, and a page that is programmed twice, its block erased in between
  pub fresh-accepted : (fresh 3 1 1 1 (replicate 3 7) (replicate (stride * 3) 7) (replicate 3 7)).refusal ≡ 0
  pub page-again : trace (write 1 0 1 (10 ∷ []) ∷ write 2 0 1 (20 ∷ []) ∷ reclaim ∷ write 3 0 1 (30 ∷ []) ∷ reclaim ∷ write 4 0 1 (40 ∷ []) ∷ []) (started 3 1 1 1)
      ≡ Op.program 0 10 ∷ Op.program 1 20 ∷ Op.erase 0 ∷ Op.program 2 30 ∷ Op.erase 1 ∷ Op.program 0 40 ∷ []
  -- demands 2 and 3 and the double refund, from a sound state on flash that is erased from each fill on: the one that P3 leaves
  pub is_near : same_by eqb (words_in (run (take 6 p3) (started 4 16 32 16)).state) (words_in nearly3) ≡ true
  pub near_sound : (shaped nearly3 ≡ true) × (sound nearly3 ≡ true)
  pub is-left : same_by eqb (words_in (run (drop 6 p3) (begin nearly3 blank)).state) (words_in sound3) ≡ true
  pub is-shaped : shaped sound3 ≡ true
  pub is-sound : sound sound3 ≡ true
  pub is-erased : ErasedFromFill sound3 blank
  -- demand 2 of a make: one whose device is storable and holds pages, accepted on words that held something else, with such a flash; and one that is refused
  pub is-storable : Storable restoring.device
  pub make-accepted : restored.refusal ≡ 0
  pub make-mapped : at restoring.device 9 ≡ 11
  pub make-erased : ErasedFromFill restored.after blank
  pub make-refused : (make restoring [] [] []).refusal ≡ 1
  -- demand 3: a write of 7 pages, since 8 + 7 + 1 extents fit in 16 slots; one reclaim is made, whose answer just fits, and so does the write's
  pub asked : Asked sound3.head 8 0 7
  pub limit : sound3.head.blocks - 1 ≤ 3
  pub roomy : Way Roomy 3 tens (begin sound3 blank)
  pub one-reclaim : times 3 tens (begin sound3 blank) ≡ 1
  pub enough : LongEnough (Call.write 8 0 7 (replicate 3 0)) (until 3 tens (begin sound3 blank)).state
  -- the double refund: the last request of P3 carries a number and is accepted; of P4's requests three repeat; a state whose last number is the largest
  pub accepted : (call (Call.write 7 9 1 (replicate 48 0)) nearly3).refusal ≡ 0
  pub carried : carries (Call.write 7 9 1 (replicate 48 0)) ≡ true
  pub largest : (shaped worn ≡ true) × (sound worn ≡ true) × (worn.head.last.number ≡ 2 ^ 64 - 1) × (given (Call.write 7 0 1 []) worn Refusal.Range ≡ false)
  pub repeated : once [] (drop 6 p3 ++ p4) (begin nearly3 blank) ≡ write 7 9 1 [] ∷ reclaim ∷ write 8 0 1 [] ∷ []
  -- T-12: something is stale in the sound state; in a damaged one 6 would apply, were it not for the 2 before it
  pub some-stale : given (Call.reclaim []) sound3 Refusal.NothingStale ≡ false
  pub six_if_damaged : (shaped over_the_edge ≡ true) × (sound over_the_edge ≡ false)
      × (given (Call.reclaim []) over_the_edge Refusal.NothingStale ≡ false) × (given (Call.reclaim []) over_the_edge Refusal.NoNodes ≡ true)
  -- T-04: in the state of P3 block 0 has room for four pages and for no more, and five are kept whole in block 1; in another sound state no block has room for two
  pub roomy-block : HasRoom 4 sound3 0 × (HasRoom 5 sound3 0 → ⊥) × HasRoom 5 sound3 1
  pub whole-accepted : same_by eqb (sent 5 sound3) (0 ∷ 1 ∷ 0 ∷ 16 ∷ 5 ∷ []) ≡ true
  pub no-roomy-block : (b : ℕ) → HasRoom 2 halved b → ⊥
  pub cut-accepted : same_by eqb (sent 2 halved) (0 ∷ 2 ∷ 0 ∷ 1 ∷ 1 ∷ 1 ∷ 3 ∷ 1 ∷ []) ≡ true

pub met : Met
unfolding opened
    programs copies to_do ops does doing marks marking shown reads see step run begin trace begin_fresh
    stale_of until times repeats noted once answer_of same_by
met = record {
  each-given = refl;
  fresh-accepted = refl;
  page-again = refl;
  is_near = refl;
  near_sound = (refl, refl);
  is-left = refl;
  is-shaped = refl;
  is-sound = refl;
  is-erased = record { whole = refl; blank = λ b o h k i. replicate-at Cell.erased 64 (b * 16 + o) };
  is-storable = device-storable sound3 refl refl;
  make-accepted = refl;
  make-mapped = refl;
  make-erased = record { whole = refl; blank = λ b o h k i. replicate-at Cell.erased 64 (b * 16 + o) };
  make-refused = refl;
  asked = record { some = omega arith; block = omega arith; inside = omega arith; newer = omega arith; slots = inl (omega arith) };
  limit = omega arith;
  roomy = λ y. (omega arith, λ z. absurd (z refl));
  one-reclaim = refl;
  enough = omega arith;
  accepted = refl;
  carried = refl;
  largest = (refl, refl, refl, refl);
  repeated = refl;
  some-stale = refl;
  six_if_damaged = (refl, refl, refl, refl);
  roomy-block = ((omega arith, λ e. omega arith, omega arith), (λ r. omega (arith, r.2)), (omega arith, λ e. omega arith, omega arith));
  whole-accepted = refl;
  no-roomy-block = unroomy;
  cut-accepted = refl;
}
