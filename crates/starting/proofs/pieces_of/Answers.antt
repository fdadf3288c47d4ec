use Rattle.std.proofs.Common.{◌<◌, arith}
use Rattle.rules.specs.Blocks.{fill_word}
use Rattle.laws.specs.Spread.{taken_le}
use Rattle.starting.specs.Rest.{many-lines, many-end, many-done, many_skip, many-some}
use Rattle.starting.proofs.pieces_of.Goals as goal
use Rattle.starting.proofs.pieces_of.Goals.{then-m-gt0, else-m-gt0}

pub returns-then-left-eq0 : goal.returns-then-left-eq0
returns-then-left-eq0 c l =
    let a = c.args in
    let i = c.loop-b in
    omega (
      arith,
      many-done a.h.pages a.h.reserve a.h.blocks a.blk.now i.b i.left (omega arith),
      many-lines a.h.pages a.h.reserve a.h.blocks a.blk.now a.from l a.want,
    )

pub overflow_sub-left : goal.overflow_sub-left
overflow_sub-left c =
    let a = c.args in
    let i = c.loop-b in
    omega (arith, taken_le a.h.pages a.h.reserve i.b (fill_word a.blk.now i.b) i.left)

pub loop-b-preserved : goal.loop-b-preserved
loop-b-preserved c =
    let a = c.args in
    let i = c.loop-b in
    let r = c.room_in-m in
    let h : i.b < a.h.blocks = omega arith in
    elim c.if-m-gt0.branch [
      | then-m-gt0 w ↦ (omega arith, omega (arith, many-some a.h.pages a.h.reserve a.h.blocks a.blk.now i.b i.left r.result h r.ensures (omega arith)))
      | else-m-gt0 w ↦ (omega arith, omega (arith, many_skip a.h.pages a.h.reserve a.h.blocks a.blk.now i.b i.left r.result h r.ensures (omega arith)))
    ]

pub returns : goal.returns
returns c l =
    let a = c.args in
    let i = c.loop-b in
    omega (
      arith,
      many-end a.h.pages a.h.reserve a.h.blocks a.blk.now i.b i.left (omega arith),
      many-lines a.h.pages a.h.reserve a.h.blocks a.blk.now a.from l a.want,
    )
