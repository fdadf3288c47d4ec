use Rattle.std.proofs.Common.{◌∙◌, ◌+◌, subst}
use Rattle.rules.specs.Lent.{lent, Lent, in_use}
use Rattle.rules.specs.Calls.{Call, refused}
use Rattle.refusals.specs.Refusals.{handed, lent-refuses}
use Rattle.refusals.specs.Accepts.{trim-refusal}
use Rattle.map.specs.Around.{Beside}
use Rattle.layer.specs.Held.{held-refuses, held-ready}
use Rattle.layer.proofs.trim.Goals as goal

pub returns-in_err-s : goal.returns-in_err-s
unfolding refused
returns-in_err-s c =
    let a = c.args in
    rw (handed _ _ c.from_residual.ensures.1)
    (lent-refuses (Call.trim a.number a.l a.n) (lent a.h a.ext.now a.blk.now a.spare.now) _ _ c.lent_verdict.ensures.told c.in_err-s.was)

pub returns-in_err-trim_verdict : goal.returns-in_err-trim_verdict
unfolding refused
returns-in_err-trim_verdict c =
    let a = c.args in
    rw (handed _ _ c.from_residual-in_err-trim_verdict.ensures.1)
    (held-refuses (Call.trim a.number a.l a.n) _ c.in_ok-s.s c.in_ok-s.ensures.seen _ (c.trim_verdict.ensures ∙ trim-refusal a.number a.l a.n _) _ c.in_err-trim_verdict.was)

pub make_holes-requires : goal.make_holes-requires
make_holes-requires c =
    let a = c.args in
    let e = c.in_ok-s.ensures.seen in (
      held-ready (Call.trim a.number a.l a.n) _ c.in_ok-s.s e _ (c.trim_verdict.ensures ∙ trim-refusal a.number a.l a.n _) _ c.in_ok-trim_verdict.was,
      subst (λ (x : Lent). Beside a.l (a.l + a.n) (in_use x) c.around-sides.result) e (rw c.of.ensures at c.around-sides.ensures),
    )
