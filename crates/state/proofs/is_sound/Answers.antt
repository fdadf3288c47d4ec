-- The head, then the labels, then the slots, then the valid counts, which decide.
use Rattle.std.proofs.Common.{arith}
use Rattle.laws.specs.Shapes.{shape-true}
use Rattle.state.specs.Sound.{labels_framed, walk-given, head-no, ruled_no, slots-no, valid-said}
use Rattle.state.proofs.is_sound.Goals as goal

pub head_ok-requires : goal.head_ok-requires
head_ok-requires c = let z = shape-true _ _ _ _ c.requires in (z.extents-is, z.blocks_is)

pub returns-then-not-head_ok : goal.returns-then-not-head_ok
returns-then-not-head_ok c = head-no _ _ _ _ c.requires (c.head_ok.ensures.no c.if-not-head_ok.true)

pub labels_ok-requires : goal.labels_ok-requires
labels_ok-requires c = let a = c.args in labels_framed a.h a.ext.now a.blk.now a.spare.now c.requires

pub returns-then-not-labels_ok : goal.returns-then-not-labels_ok
returns-then-not-labels_ok c =
    let a = c.args in
    ruled_no a.h a.ext.now a.blk.now a.spare.now c.requires (c.labels_ok.ensures.no c.if-not-labels_ok.true)

pub walk-requires : goal.walk-requires
walk-requires c = walk-given _ _ _ _ c.requires (c.head_ok.ensures.yes c.if-not-head_ok.false)

pub valid_ok-requires : goal.valid_ok-requires
valid_ok-requires c = let z = shape-true _ _ _ _ c.requires in (z.blocks_is, omega arith)

pub returns-then-walk : goal.returns-then-walk
returns-then-walk c =
    let a = c.args in
    let walk = c.walk.ensures in
    valid-said a.h a.ext.now a.blk.now a.spare.now c.requires
    (c.labels_ok.ensures.yes c.if-not-labels_ok.false) (walk.says.yes c.if-walk.true) c.walk.new.tally c.valid_ok.result
    (c.head_ok.ensures.yes c.if-not-head_ok.false) (walk.counts c.if-walk.true) c.valid_ok.ensures

pub returns-else-walk : goal.returns-else-walk
returns-else-walk c = rw c.if-walk.false (slots-no _ _ _ _ c.requires (c.walk.ensures.says.no c.if-walk.false))
