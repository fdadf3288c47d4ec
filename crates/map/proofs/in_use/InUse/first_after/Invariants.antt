-- Halving: what lies before the slots that are left ends at or below the page, what lies behind them ends after it.
use Rattle.std.proofs.Common.{◌+◌, ◌≤◌}
use Rattle.map.specs.Halved.{Halved}
use Rattle.map.proofs.in_use.InUse.first_after.Given as goal

abbrev pub invariant-loop-left : goal.invariant-loop-left
invariant-loop-left l = (l.first + l.left ≤ l.self.used) × Halved l.self.words.now l.self.used l.page l.first l.left

abbrev pub decreases-loop-left : goal.decreases-loop-left
decreases-loop-left l = l.left
