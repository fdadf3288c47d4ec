use Rattle.rules.specs.Lent.{lent}
use Rattle.changes.specs.Trims.{cuttable, lowerable, opened-is}
use Rattle.changes.proofs.open_range.Goals as goal

pub lower-requires : goal.lower-requires
lower-requires c =
    let a = c.args in
    (lowerable a.l a.n (lent a.h a.ext.now a.blk.now a.spare.now) c.requires.0, c.requires.1.first)

pub open_gap-requires : goal.open_gap-requires
open_gap-requires c =
    let a = c.args in
    (cuttable a.l a.n (lent a.h a.ext.now a.blk.now a.spare.now) c.requires.0, c.requires.1)

pub returns : goal.returns
returns c =
    let a = c.args in
    let gap = c.open_gap.ensures in
    opened-is a.l a.n (lent a.h a.ext.now a.blk.now a.spare.now) c.requires.0 _ _ _ _ _ _ gap.0 gap.1 c.lower.ensures
