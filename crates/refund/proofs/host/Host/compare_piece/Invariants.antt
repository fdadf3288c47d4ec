use Rattle.std.proofs.Common.{◌≤◌}
use Rattle.refund.proofs.host.Host.compare_piece.Given as goal

abbrev pub invariant-loop-k : goal.invariant-loop-k
invariant-loop-k l = l.right ≤ l.k
