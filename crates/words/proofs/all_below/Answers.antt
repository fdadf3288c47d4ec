use Rattle.std.proofs.Common.{get_or, arith, lt-ltb, le-ltb}
use Rattle.words.specs.Scan.{scan-none, scan_fails, scan-goes}
use Rattle.words.proofs.all_below.Goals as goal
use Rattle.words.proofs.all_below.Goals.{then-last-w, else-last-w}

pub loop-w-init : goal.loop-w-init
loop-w-init c = scan-none _

pub loop-w-preserved : goal.loop-w-preserved
loop-w-preserved c =
    let o = c.loop-w in
    let a = c.args in
    elim c.if-last-w.branch [
      | then-last-w w ↦ rw w.ok-is (scan_fails _ _ (le-ltb (get_or a.ws.now o.w-index 0) a.top (omega arith)))
      | else-last-w w ↦ rw w.ok-is (scan-goes _ _ _ o.invariant (lt-ltb (get_or a.ws.now o.w-index 0) a.top (omega arith)))
    ]
