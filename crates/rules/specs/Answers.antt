-- The number of each refusal, and what an answer says in the paper's numbers, case by case.
use Rattle.std.specs.Prelude.{ℕ, Bool, cond, List, [], ◌∷◌, Result, Ok, Err}
use Rattle.rules.specs.Lent.{Lent}
use Rattle.rules.specs.declared.Head.{Head}
use Rattle.rules.specs.declared.Refusal.{Refusal}
use Rattle.rules.specs.declared.Listed.{Listed}
use Rattle.rules.specs.declared.Counted.{Counted}

-- 01, Refusals
abbrev pub number : Refusal → ℕ
number Refusal.Shape = 1
number Refusal.Damaged = 2
number Refusal.Range = 3
number Refusal.Applied = 4
number Refusal.NoPages = 5
number Refusal.NoNodes = 6
number Refusal.OutShort = 7
number Refusal.NothingStale = 8

-- the number of refusal r where the test applies; what the later tests give where it does not
unfoldable pub refuse : Bool → Refusal → ℕ → ℕ
refuse applies r later = cond applies (number r) later

-- what a call leaves behind, over lent words or over a plain device: the refusal's number, or 0; every count; the state; the answer buffer
pub record Outcome (State : Type 0) : Type 0 where
  pub refusal : ℕ
  pub counts : List ℕ
  pub after : State
  pub out : List ℕ

-- ---- the answers of the calls

-- what an answer says: the refusal's number, or 0; every count, zero in a refusal; the head
pub record Said : Type 0 where
  pub refusal : ℕ
  pub counts : List ℕ
  pub head : Head

abbrev pub said : ℕ → List ℕ → Head → Said
said r cs h = record { refusal = r; counts = cs; head = h }

-- the head h that was lent, or that fresh was given the sizes of, is the head of a refusal

-- fresh and trim: no count
abbrev pub done : Head → Result Head Refusal → Said
done h (Ok after) = said 0 [] after
done h (Err r) = said (number r) [] h

-- write, read and reclaim: pieces of the answer, or copied pages
abbrev pub listed : Head → Result Listed Refusal → Said
listed h (Ok l) = said 0 (l.count ∷ []) l.head
listed h (Err r) = said (number r) (0 ∷ []) h

-- report: free, live, stale
abbrev pub counted : Head → Result Counted Refusal → Said
counted h (Ok c) = said 0 (c.free ∷ c.live ∷ c.stale ∷ []) h
counted h (Err r) = said (number r) (0 ∷ 0 ∷ 0 ∷ []) h

-- an answer and the words as they are afterwards
abbrev pub outcome : Said → List ℕ → List ℕ → List ℕ → List ℕ → Outcome Lent
outcome a extent_words block_words spare out = record {
  refusal = a.refusal;
  counts = a.counts;
  after = record { head = a.head; extent_words = extent_words; block_words = block_words; spare = spare };
  out = out;
}
