use Rattle.std.proofs.Common.{◌∙◌, arith}
use Rattle.state.specs.Seen.{lent_of, is-shaped, is-state}
use Rattle.refusals.specs.Refusals.{handed_on}
use Rattle.verdicts.specs.Reading.{read-range, read-short, read-within}
use Rattle.verdicts.proofs.read_verdict.Goals as goal

pub returns-in_err-unless : goal.returns-in_err-unless
returns-in_err-unless c =
    let a = c.args in
    handed_on _ _ c.from_residual.ensures.1
    ∙ read-range (lent_of a.s) (is-shaped a.s) (is-state a.s) a.l a.n a.room c.in_range.result c.in_range.ensures _ c.unless.ensures _ c.in_err-unless.was

pub overflow_add-l : goal.overflow_add-l
overflow_add-l c =
    let a = c.args in
    omega (arith, read-within (lent_of a.s) (is-shaped a.s) (is-state a.s) a.l a.n a.room c.in_range.result c.in_range.ensures _ _ c.unless.ensures c.in_ok-unless.was)

pub returns : goal.returns
returns c =
    let a = c.args in
    read-short (lent_of a.s) (is-shaped a.s) (is-state a.s) a.l a.n a.room c.in_range.result c.in_range.ensures
    _ _ _ _ c.unless.ensures c.in_ok-unless.was (rw c.of.ensures at c.count_found-found.ensures) c.unless-2.ensures
