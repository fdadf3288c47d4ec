use Rattle.std.proofs.Common.{◌∙◌, arith}
use Rattle.rules.specs.Extents.{extent}
use Rattle.map.specs.Around.{none_before, last-joins}
use Rattle.map.proofs.joins_left.Goals as goal

pub returns-then-before-lt1 : goal.returns-then-before-lt1
returns-then-before-lt1 c = none_before _ _ _ _ (omega arith)

pub returns : goal.returns
returns c =
    let a = c.args in
    c.joins.ensures ∙ last-joins a.pages a.before (extent a.l a.p 1) _ a.ext.now (omega arith) c.slot_at.ensures
