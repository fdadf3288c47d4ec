use Rattle.std.proofs.Common.{◌∙◌, sym}
use Rattle.rules.specs.declared.Refusal.{Refusal}
use Rattle.refusals.specs.Refusals.{handed_on, stops, goes_on}
use Rattle.refusals.proofs.asked_verdict.Goals as goal

pub returns-in_err-unless : goal.returns-in_err-unless
returns-in_err-unless c = handed_on _ _ c.from_residual.ensures.1 ∙ stops _ _ Refusal.Range c.unless.ensures _ c.in_err-unless.was _

pub returns : goal.returns
returns c = c.number_verdict.ensures ∙ sym (goes_on _ _ Refusal.Range c.unless.ensures _ c.in_ok-unless.was _)
