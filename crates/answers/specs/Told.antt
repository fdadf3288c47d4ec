-- What a struct of the C interface says tells it apart: two that say the same are equal.
use Rattle.std.specs.Prelude.{ℕ, ◌≡◌, get_or}
use Rattle.std.proofs.Common.{ap}
use Rattle.rules.specs.Answers.{Said}
use Rattle.answers.specs.declared.Outcome.{Outcome}
use Rattle.answers.specs.declared.Counts.{Counts}
use Rattle.answers.specs.Said.{of_done, of_listed, of_counts}

-- the count at place i of what is said
at : ℕ → Said → ℕ
at i s = get_or s.counts i 0

pub of_done-one : (a b : Outcome) → of_done a ≡ of_done b → a.count ≡ b.count → a ≡ b
of_done-one a b e f = λ i. record { refusal = (e i).refusal; count = f i; head = (e i).head }

pub of_listed-one : (a b : Outcome) → of_listed a ≡ of_listed b → a ≡ b
unfolding at
of_listed-one a b e = λ i. record { refusal = (e i).refusal; count = ap (at 0) e i; head = (e i).head }

pub counts-one : (a b : Counts) → of_counts a ≡ of_counts b → a ≡ b
unfolding at
counts-one a b e = λ i. record { refusal = (e i).refusal; free = ap (at 0) e i; live = ap (at 1) e i; stale = ap (at 2) e i; head = (e i).head }
