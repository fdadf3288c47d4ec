-- What a public call is held to, said of the contract that the checker uses: it asks nothing, answers as demand 1 says, and allows one result. Each call's own
-- statement is in proofs/Calls.antt; here are the words for it.
use Rattle.std.specs.Prelude.{ℕ, ◌≡◌, List}
use Rattle.rules.specs.Lent.{Lent}
use Rattle.rules.specs.Answers.{Outcome, Said, outcome}

-- where the lent words are found in what a call leaves behind, S: those at exit, and those at entry of a buffer that is only read; [] where there is none
pub record Words (S : Type 0) : Type 0 where
  pub extent_words : S → List ℕ
  pub block_words : S → List ℕ
  pub spare : S → List ℕ
  pub answer : S → List ℕ

-- the outcome that answer r and the words in s are
abbrev pub leaving : {A S : Type 0} → (A → Said) → Words S → A → S → Outcome Lent
leaving say at r s = outcome (say r) (at.extent_words s) (at.block_words s) (at.spare s) (at.answer s)

-- the same words in s and in t
pub record Same {S : Type 0} (at : Words S) (s t : S) : Type 0 where
  pub extent_words : at.extent_words s ≡ at.extent_words t
  pub block_words : at.block_words s ≡ at.block_words t
  pub spare : at.spare s ≡ at.spare t
  pub answer : at.answer s ≡ at.answer t

-- Asks is what the contract asks of the caller, Post r s what it asks of a body that answers r and leaves s; Right is an outcome that demand 1 allows
pub record Promises {A S : Type 0} (Asks : Type 0) (Post : A → S → Type 0) (say : A → Said) (at : Words S) (Right : Outcome Lent → Type 0) : Type 0 where
  -- whatever is given
  pub asks : Asks
  pub answers : (r : A) (s : S) → Post r s → Right (leaving say at r s)
  -- any two results are equal
  pub answer : (r r' : A) (s s' : S) → Post r s → Post r' s' → r ≡ r'
  pub words : (r r' : A) (s s' : S) → Post r s → Post r' s' → Same at s s'
