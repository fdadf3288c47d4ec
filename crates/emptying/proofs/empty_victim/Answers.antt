use Rattle.std.proofs.Common.{refl, arith}
use Rattle.rules.specs.Lent.{lent}
use Rattle.emptying.specs.Empties.{reclaim_walkable, reclaim_moves, reclaim-lists, reclaim-copied, reclaim-map, reclaim-few, reclaim-answer}
use Rattle.emptying.proofs.empty_victim.Goals as goal

pub invariant_of-block : goal.invariant_of-block
invariant_of-block c =
    let a = c.args in
    record { ends = (reclaim_walkable a.out.now (lent a.h a.ext.now a.blk.now a.spare.now) c.requires.ready a.v c.requires.v_value).room }

pub ranks_of-ranks-requires-clause-used_in_bounds :
    goal.ranks_of-ranks-requires-clause-used_in_bounds
ranks_of-ranks-requires-clause-used_in_bounds c =
    let a = c.args in
    let w = reclaim_walkable a.out.now (lent a.h a.ext.now a.blk.now a.spare.now) c.requires.ready a.v c.requires.v_value in
    (w.slots, w.some, w.few)

pub list_sources-requires : goal.list_sources-requires
list_sources-requires c =
    let a = c.args in
    let lists = reclaim-lists a.out.now (lent a.h a.ext.now a.blk.now a.spare.now) c.requires.ready a.v c.requires.v_value
    c.ranks_of-ranks.result c.ranks_of-ranks.ensures in
    (lists.0, lists.1)

pub move_labels-requires : goal.move_labels-requires
move_labels-requires c =
    let a = c.args in
    reclaim-copied a.out.now (lent a.h a.ext.now a.blk.now a.spare.now) c.requires.ready a.v c.requires.v_value
    c.ranks_of-ranks.result c.ranks_of-ranks.ensures _ c.list_sources.ensures

pub move_blocks-requires : goal.move_blocks-requires
move_blocks-requires c =
    let a = c.args in
    reclaim_moves a.out.now (lent a.h a.ext.now a.blk.now a.spare.now) c.requires.ready a.v c.requires.v_value

pub move_map-nodes-requires : goal.move_map-nodes-requires
move_map-nodes-requires c =
    let a = c.args in
    reclaim-map a.out.now (lent a.h a.ext.now a.blk.now a.spare.now) c.requires.ready a.v c.requires.v_value
    c.ranks_of-ranks.result c.ranks_of-ranks.ensures

pub overflow_cast-head : goal.overflow_cast-head
overflow_cast-head c =
    let a = c.args in
    let few = reclaim-few a.out.now (lent a.h a.ext.now a.blk.now a.spare.now) c.requires.ready a.v c.requires.v_value in
    omega (arith, few, c.move_map-nodes.ensures.0)

pub returns : goal.returns
returns c =
    let a = c.args in
    let nodes = c.move_map-nodes.ensures in
    reclaim-answer a.out.now (lent a.h a.ext.now a.blk.now a.spare.now) c.requires.ready a.v c.requires.v_value
    c.ranks_of-ranks.result c.ranks_of-ranks.ensures _ c.list_sources.ensures
    _ refl _ _ _ _ nodes.0 nodes.1 c.move_blocks.ensures c.move_labels.ensures
