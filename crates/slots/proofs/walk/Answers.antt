-- Slot by slot: what is refused refuses all; what is not goes on to the next, its pages in the tally.
use Rattle.std.proofs.Common.{arith, rules}
use Rattle.slots.specs.Walk.{left-start, left_bad, left_step, left_end, walk_no, in_tally}
use Rattle.slots.proofs.walk.Goals as goal

pub loop-i-init : goal.loop-i-init
loop-i-init c = left-start c.requires

pub returns-then-not-row_ok : goal.returns-then-not-row_ok
returns-then-not-row_ok c =
    walk_no (left_bad c.loop-i.invariant (search rules) (rw c.slot_at-x.ensures at (c.row_ok.ensures.no c.if-not-row_ok.true)))

pub loop-i-preserved : goal.loop-i-preserved
loop-i-preserved c =
    let s = c.requires in
    let e = c.slot_at-x.ensures in
    let row = rw e at (c.row_ok.ensures.yes c.if-not-row_ok.false) in
    let home = rw e at (c.home_ok.ensures.yes c.if-not-home_ok.false) in
    rw e (left_step c.loop-i.invariant (search rules) s.pages-high (omega (arith, s.spares, s.pages-high)) (in_tally s row.some home) row home)

pub returns : goal.returns
returns c = left_end c.loop-i.invariant (search rules)
