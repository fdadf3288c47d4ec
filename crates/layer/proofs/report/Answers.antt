-- A report: refused by the first verdict as a view is, or counted.
use Rattle.std.proofs.Common.{◌≡◌, [], ◌∷◌, sym, ◌∙◌, subst}
use Rattle.rules.specs.Lent.{lent, Lent}
use Rattle.rules.specs.Answers.{said, outcome}
use Rattle.rules.specs.Calls.{Call, call}
use Rattle.rules.specs.Views.{reporting}
use Rattle.laws.specs.Views.{report-view}
use Rattle.refusals.specs.Refusals.{handed, view-told}
use Rattle.layer.proofs.report.Goals as goal

pub returns-in_err-s : goal.returns-in_err-s
returns-in_err-s c =
    let a = c.args in
    let s = lent a.h a.ext.now a.blk.now a.spare.now in
    rw (handed _ _ c.from_residual.ensures.1)
    (view-told reporting s _ _ c.lent_verdict.ensures.told c.in_err-s.was ∙ sym (report-view s))

pub returns : goal.returns
returns c =
    let k = c.count_pages.result in
    subst (λ (x : Lent). outcome (said 0 (k.free ∷ k.live ∷ k.stale ∷ []) x.head) x.extent_words x.block_words x.spare [] ≡ call Call.report x)
    c.in_ok-s.ensures.seen c.count_pages.ensures
