-- What a struct of the C interface says, in the paper's numbers: the same as the answer that it was made of.
use Rattle.std.specs.Prelude.{ℕ, ◌≡◌, List, [], ◌∷◌, Result}
use Rattle.std.proofs.Common.{ap, ◌∙◌}
use Rattle.rules.specs.Lent.{Lent}
use Rattle.rules.specs.Answers.{Said, said, done, listed, counted, outcome, Outcome as Outcomes}
use Rattle.rules.specs.declared.Head.{Head}
use Rattle.rules.specs.declared.Refusal.{Refusal}
use Rattle.rules.specs.declared.Listed.{Listed}
use Rattle.rules.specs.declared.Counted.{Counted}
use Rattle.answers.specs.declared.Outcome.{Outcome}
use Rattle.answers.specs.declared.Counts.{Counts}

-- no count: the field is 0
abbrev pub of_done : Outcome → Said
of_done o = said o.refusal [] o.head

abbrev pub of_listed : Outcome → Said
of_listed o = said o.refusal (o.count ∷ []) o.head

abbrev pub of_counts : Counts → Said
of_counts o = said o.refusal (o.free ∷ o.live ∷ o.stale ∷ []) o.head

abbrev pub said_done : Outcome → Head → Result Head Refusal → Type 0
said_done o h d = (of_done o ≡ done h d) × (o.count ≡ 0)

abbrev pub said_listed : Outcome → Head → Result Listed Refusal → Type 0
said_listed o h d = of_listed o ≡ listed h d

abbrev pub said_counts : Counts → Head → Result Counted Refusal → Type 0
said_counts o h d = of_counts o ≡ counted h d

-- what is promised of an answer holds of what says the same
pub as_said : (a b : Said) (extents blocks spare out : List ℕ) (r : Outcomes Lent) → a ≡ b → outcome b extents blocks spare out ≡ r → outcome a extents blocks spare out ≡ r
as_said a b extents blocks spare out r e f = ap (λ (x : Said). outcome x extents blocks spare out) e ∙ f
