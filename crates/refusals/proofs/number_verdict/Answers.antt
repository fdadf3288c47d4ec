use Rattle.std.proofs.Common.{rules, ap, ◌∙◌}
use Rattle.rules.specs.Answers.{refuse}
use Rattle.rules.specs.declared.Refusal.{Refusal}
use Rattle.refusals.specs.Refusals.{below-not}
use Rattle.refusals.specs.Numbered.{number_refusal}
use Rattle.refusals.proofs.number_verdict.Goals as goal

pub returns : goal.returns
unfolding number_refusal
returns c = c.unless.ensures ∙ ap (λ t. refuse t Refusal.Applied 0) (search (rules, below-not))
