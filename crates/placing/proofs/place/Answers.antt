use Rattle.std.proofs.Common.{◌-◌, arith}
use Rattle.rules.specs.Blocks.{fill_word}
use Rattle.laws.specs.Spread.{taken_le}
use Rattle.placing.specs.Way.{placing_start, placing_fits, placing_step, placing_end, placing_done}
use Rattle.placing.proofs.place.Goals as goal

pub loop-b-init : goal.loop-b-init
loop-b-init c = placing_start _ _ _ _ _ _ _ _ _ c.requires

pub returns-then-done-want : goal.returns-then-done-want
returns-then-done-want c = placing_done _ _ _ _ _ _ _ _ _ c.requires _ _ _ _ _ _ c.loop-b.invariant (omega arith)

pub place_in-k-requires : goal.place_in-k-requires
place_in-k-requires c = placing_fits _ _ _ _ _ _ _ _ _ c.requires _ _ _ _ _ _ c.loop-b.invariant _ (omega arith) c.room_in-m.ensures

pub overflow_add-done : goal.overflow_add-done
overflow_add-done c =
    let a = c.args in
    let i = c.loop-b in
    omega (arith, taken_le a.h.pages a.h.reserve i.b (fill_word i.blk i.b) (a.want - i.done), c.room_in-m.ensures)

pub loop-b-preserved : goal.loop-b-preserved
loop-b-preserved c =
    placing_step _ _ _ _ _ _ _ _ _ c.requires _ _ _ _ _ _ c.loop-b.invariant _ (omega arith) c.room_in-m.ensures _ _ _ _ c.place_in-k.ensures

pub returns : goal.returns
returns c = placing_end _ _ _ _ _ _ _ _ _ c.requires _ _ _ _ _ _ c.loop-b.invariant (omega arith)
