use Rattle.std.proofs.Common.{◌+◌, refl, get_or}
use Rattle.words.specs.Scan.{scan-none, scan_bits}
use Rattle.words.proofs.all_rise.Goals as goal

pub loop-k-init : goal.loop-k-init
loop-k-init c = scan-none _

pub loop-k-preserved : goal.loop-k-preserved
loop-k-preserved c =
    let o = c.loop-k in
    scan_bits _ _ o.off (get_or c.args.ws.now o.k 0) (c.args.x + o.k) o.invariant refl
