-- Demand 2. From a fresh device on erased flash, any sequence of further calls other than fresh, each given the state the last one left, answers as a
-- plain table with one line per logical page, kept by the published placement and reclaim rules. If the host programs and copies what accepted calls list,
-- and erases after the copies, every page reads as its last accepted write, or as a hole after a trim or before any write. No flash page is programmed
-- twice between erases.
-- This is the statement; `demand_2` (Proved) proves it.
use Rattle.std.specs.Prelude.{ℕ, ◌*◌, ◌/◌, ◌%◌, ◌<◌, Bool, true, false, ◌||◌, ◌≡◌, List, [], ◌∷◌, ◌++◌, map, eqb, length, get_or, replicate}
use Rattle.rules.specs.Lent.{Lent}
use Rattle.rules.specs.Device.{Device, lines, device_of}
use Rattle.rules.specs.Answers.{Outcome}
use Rattle.rules.specs.Calls.{Call, plain_call, encoded, call}
use Rattle.demands.specs.Flash.{erased, hole, contents}
use Rattle.demands.specs.Host.{Ask, Op, ops, marking, reads, World, step, run}

-- ---- the answers: any calls other than fresh, accepted and refused mixed, with any numbers, ranges and answer buffers, each given the
-- state that the last one left

unfoldable pub history : List Call → Lent → List (Outcome Lent)
history [] s = []
history (c ∷ cs) s = let o = call c s in o ∷ history cs o.after

-- the same on the plain table
unfoldable pub plain_history : List Call → Device → List (Outcome Device)
plain_history [] d = []
plain_history (c ∷ cs) d = let o = plain_call c d in o ∷ plain_history cs o.after

-- ---- what the host does in a history, in order

unfoldable pub trace : List Ask → World → List Op
trace [] w = []
trace (a ∷ rest) w = ops a w.state ++ trace rest (step a w)

-- page p is programmed, with contents or as the target of a copy
abbrev pub onto : ℕ → Op → Bool
onto p (Op.program q x) = eqb q p
onto p (Op.copy q r) = eqb r p
onto p (Op.erase b) = false

-- block b is erased
abbrev pub erasing : ℕ → Op → Bool
erasing b (Op.program p x) = false
erasing b (Op.copy p q) = false
erasing b (Op.erase c) = eqb c b

-- at one of these steps
unfoldable pub erases : ℕ → List Op → Bool
erases b [] = false
erases b (o ∷ os) = erasing b o || erases b os

-- no flash page is programmed twice between erases: wherever page p is programmed and programmed again, its block is erased in between; N = n
abbrev pub NotTwice : ℕ → List Op → Type 0
NotTwice n os = (before between after : List Op) (x y : Op) (p : ℕ)
    → os ≡ before ++ x ∷ (between ++ y ∷ after) → onto p x ≡ true → onto p y ≡ true → erases (p / n) between ≡ true

-- pages of a block are programmed from first to last: page p is one of the flash, and it is programmed when just as many pages of its block have been
-- programmed since the block was last erased as lie before it there; m says how many of each block were at the beginning
abbrev pub InOrder : ℕ → List ℕ → List Op → Type 0
InOrder n m os = (before after : List Op) (x : Op) (p : ℕ)
    → os ≡ before ++ x ∷ after → onto p x ≡ true → (p / n < length m) × (get_or (marking n before m) (p / n) 0 ≡ p % n)

-- ---- the demand, of a history that begins in world w, whose plain device is d

pub record Demand2 (w : World) (d : Device) (asks : List Ask) : Type 0 where
  pub answers : history (map (λ a. a.request) asks) w.state ≡ map encoded (plain_history (map (λ a. a.request) asks) d)
  -- a read of any page shows what its last accepted write or trim says (`shown`, Host), and before any of them what it showed at the beginning
  pub reads : (l : ℕ) → l < lines d → reads (run asks w).state (run asks w).flash l ≡ get_or (run asks w).table l hole
  -- and so does the entry that its mapping names
  pub contents : (l : ℕ) → l < lines d → contents (device_of (run asks w).state) (run asks w).flash l ≡ get_or (run asks w).table l hole
  pub not_twice : NotTwice d.pages (trace asks w)
  pub in_order : InOrder d.pages w.programmed (trace asks w)

-- ---- where it begins: the state that an accepted fresh left, on erased flash; no page is programmed, and every logical page is to show a hole

unfoldable pub begin_fresh : Lent → World
begin_fresh s = record {
  state = s;
  flash = replicate (s.head.blocks * s.head.pages) erased;
  programmed = replicate s.head.blocks 0;
  table = replicate s.head.logical hole;
}
