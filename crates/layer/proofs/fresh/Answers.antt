use Rattle.std.proofs.Common.{◌≡◌, length, sym, ap, ◌∙◌}
use Rattle.rules.specs.Shape.{shape}
use Rattle.rules.specs.Calls.{sizes_only}
use Rattle.rules.specs.declared.Head.{Head}
use Rattle.refusals.specs.Refusals.{handed, is-passed, is-not}
use Rattle.makes.specs.Fresh.{fresh-refused}
use Rattle.layer.proofs.fresh.Goals as goal
use Rattle.layer.proofs.fresh.Goals.{After-shape_ok}

-- what was tested are the four sizes and the lengths
tested : (c : After-shape_ok) → let a = c.args in
    c.shape_ok.result ≡ shape (sizes_only a.blocks a.pages a.logical a.slots) (length a.ext.now) (length a.blk.now) (length a.spare.now)
tested c =
    let a = c.args in
    c.shape_ok.ensures ∙ ap (λ (h : Head). shape h (length a.ext.now) (length a.blk.now) (length a.spare.now)) c.sizes_only-given.ensures

pub returns-in_err-unless : goal.returns-in_err-unless
returns-in_err-unless c =
    let a = c.args in
    let no = is-not _ _ _ c.unless.ensures _ c.in_err-unless.was in
    rw (handed _ _ c.from_residual.ensures.1, no.1)
    (fresh-refused a.blocks a.pages a.logical a.slots a.ext.now a.blk.now a.spare.now (sym (tested (goal.at.returns-in_err-unless c).After-shape_ok) ∙ no.0))

pub make_fresh-requires : goal.make_fresh-requires
make_fresh-requires c =
    sym (tested (goal.at.make_fresh-requires c).After-shape_ok) ∙ is-passed _ _ _ c.unless.ensures _ c.in_ok-unless.was
