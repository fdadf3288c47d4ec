use Rattle.std.proofs.Common.{arith}
use Rattle.rules.specs.Lent.{lent}
use Rattle.rules.specs.Calls.{Call}
use Rattle.refusals.specs.Accepts.{accepts}
use Rattle.changes.specs.Writes.{write-cut, placeable, puttable, write-leaves, write-counts, write-lists, write-few}
use Rattle.changes.proofs.place_pages.Goals as goal

pub open_range-gap-requires : goal.open_range-gap-requires
open_range-gap-requires c =
    let a = c.args in
    let meets = c.requires.1 in
    (write-cut a.number a.l a.n a.out.now (lent a.h a.ext.now a.blk.now a.spare.now) c.requires.0 a.m meets, meets.sides)

pub place-k-requires : goal.place-k-requires
place-k-requires c =
    let a = c.args in
    placeable a.number a.l a.n a.out.now (lent a.h a.ext.now a.blk.now a.spare.now) c.requires.0 a.m c.requires.1
    _ _ _ _ _ c.open_range-gap.ensures

pub put_pieces-used-requires : goal.put_pieces-used-requires
put_pieces-used-requires c =
    let a = c.args in
    let k = c.place-k in
    puttable a.number a.l a.n a.out.now (lent a.h a.ext.now a.blk.now a.spare.now) c.requires.0 a.m c.requires.1
    _ _ _ _ _ c.open_range-gap.ensures _ _ _ _ k.auto.blk k.ensures

pub overflow_cast-head : goal.overflow_cast-head
overflow_cast-head c =
    let a = c.args in
    let k = c.place-k in
    let few = write-few a.number a.l a.n a.out.now (lent a.h a.ext.now a.blk.now a.spare.now) c.requires.0 a.m c.requires.1
    _ _ _ _ _ c.open_range-gap.ensures _ _ _ _ k.auto.blk k.ensures _ _ c.put_pieces-used.ensures in
    omega (arith, few)

pub returns : goal.returns
returns c =
    let a = c.args in
    let s = lent a.h a.ext.now a.blk.now a.spare.now in
    let z = c.requires.0 in
    let meets = c.requires.1 in
    let gap = c.open_range-gap.ensures in
    let k = c.place-k in
    let put = c.put_pieces-used.ensures in
    accepts (Call.write a.number a.l a.n a.out.now) s z _ _ _
    (write-counts a.number a.l a.n a.out.now s z a.m meets _ _ _ _ _ gap _ _ _ _ k.auto.blk k.ensures _ _ put)
    (write-leaves a.number a.l a.n a.out.now s z a.m meets _ _ _ _ _ gap _ _ _ _ k.auto.blk k.ensures _ _ put c.kept.result c.kept.ensures)
    (write-lists a.number a.l a.n a.out.now s z a.m meets _ _ _ _ _ gap _ _ _ _ k.auto.blk k.ensures _ _ put)
