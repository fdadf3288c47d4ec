use Rattle.std.proofs.Common.{[]}
use Rattle.rules.specs.Lent.{lent}
use Rattle.rules.specs.Calls.{Call}
use Rattle.refusals.specs.Accepts.{accepts}
use Rattle.changes.specs.Trims.{closed-holed, trim-cut, trim-leaves, trim-counts, trim-lists}
use Rattle.changes.proofs.make_holes.Goals as goal

pub open_range-gap-requires : goal.open_range-gap-requires
open_range-gap-requires c =
    let a = c.args in
    (trim-cut a.number a.l a.n (lent a.h a.ext.now a.blk.now a.spare.now) c.requires.0, c.requires.1)

pub returns : goal.returns
returns c =
    let a = c.args in
    let s = lent a.h a.ext.now a.blk.now a.spare.now in
    let z = c.requires.0 in
    let closed = closed-holed s c.close.new.ext c.open_range-gap.ensures c.close.ensures in
    accepts (Call.trim a.number a.l a.n) s z [] [] _
    (trim-counts a.number a.l a.n s z)
    (trim-leaves a.number a.l a.n s z _ _ _ _ closed c.kept-last.ensures)
    (trim-lists a.number a.l a.n s z)
