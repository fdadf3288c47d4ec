use Rattle.std.proofs.Common.{◌≡◌, ◌+◌, ◌∙◌, arith}
use Rattle.rules.specs.Device.{device_of}
use Rattle.rules.specs.Answers.{refuse}
use Rattle.rules.specs.Calls.{outside}
use Rattle.rules.specs.declared.Refusal.{Refusal}
use Rattle.state.specs.Seen.{lent_of, is-shaped, is-state}
use Rattle.refusals.specs.Refusals.{told, handed_on}
use Rattle.refusals.specs.Numbered.{number_refusal}
use Rattle.refusals.specs.Ranges.{is-outside}
use Rattle.map.specs.Around.{few_around}
use Rattle.verdicts.specs.Trimming.{trim-asked, trim-last}
use Rattle.verdicts.proofs.trim_verdict.Goals as goal
use Rattle.verdicts.proofs.trim_verdict.Goals.{After-asked_verdict}

-- Range, then the number
asked : (c : After-asked_verdict) → let a = c.args in
    told c.asked_verdict.result ≡ refuse (outside a.l a.n (device_of (lent_of a.s))) Refusal.Range (number_refusal a.s.head a.number)
asked c = let a = c.args in rw (is-outside (lent_of a.s) a.l a.n c.in_range.result c.in_range.ensures) at c.asked_verdict.ensures

pub returns-in_err-asked_verdict : goal.returns-in_err-asked_verdict
returns-in_err-asked_verdict c =
    let a = c.args in
    let asks = asked (goal.at.returns-in_err-asked_verdict c).After-asked_verdict in
    handed_on _ _ c.from_residual.ensures.1
    ∙ trim-asked (lent_of a.s) (is-shaped a.s) (is-state a.s) a.number a.l a.n _ asks _ c.in_err-asked_verdict.was

pub overflow_add-sides : goal.overflow_add-sides
overflow_add-sides c =
    let a = c.args in
    let few = few_around (lent_of a.s) (is-shaped a.s) (is-state a.s) a.l (a.l + a.n) in
    omega (arith, few, c.requires.before, c.requires.after)

pub returns : goal.returns
returns c =
    let a = c.args in
    let asks = asked (goal.at.returns c).After-asked_verdict in
    trim-last (lent_of a.s) (is-shaped a.s) (is-state a.s) a.number a.l a.n _ asks _ c.in_ok-asked_verdict.was
    a.sides.before a.sides.after c.unless.result c.requires.before c.requires.after c.unless.ensures
