use Rattle.std.proofs.Common.{arith}
use Rattle.choosing.specs.Stale.{most-start, most-more, most-stays}
use Rattle.choosing.proofs.victim_of.Goals as goal
use Rattle.choosing.proofs.victim_of.Goals.{then-most-stale, else-most-stale}

pub loop-b-init : goal.loop-b-init
loop-b-init c = most-start _

pub loop-b-preserved : goal.loop-b-preserved
loop-b-preserved c =
    let most = c.loop-b.invariant in
    let e = c.stale_of-stale.ensures in
    elim c.if-most-stale.branch [
      | then-most-stale w ↦ rw (w.v-is, w.most-is, e) (most-more _ _ _ _ most (omega arith))
      | else-most-stale w ↦ rw (w.v-is, w.most-is) (most-stays _ _ _ _ most (omega arith))
    ]
