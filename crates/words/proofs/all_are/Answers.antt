use Rattle.std.proofs.Common.{refl, get_or}
use Rattle.words.specs.Scan.{scan-none, scan_bits}
use Rattle.words.proofs.all_are.Goals as goal

pub loop-w-init : goal.loop-w-init
loop-w-init c = scan-none _

pub loop-w-preserved : goal.loop-w-preserved
loop-w-preserved c =
    let o = c.loop-w in
    scan_bits _ _ o.off (get_or c.args.ws.now o.w-index 0) c.args.x o.invariant refl
