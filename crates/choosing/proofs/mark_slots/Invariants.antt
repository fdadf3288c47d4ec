use Rattle.std.proofs.Common.{◌-◌, ◌≤◌}
use Rattle.choosing.specs.Ranks.{Marks}
use Rattle.choosing.proofs.mark_slots.Given as goal

abbrev pub invariant-loop-i : goal.invariant-loop-i
invariant-loop-i l = (l.i ≤ l.used) × Marks l.ext l.i l.v.pages l.v.number l.marks

abbrev pub decreases-loop-i : goal.decreases-loop-i
decreases-loop-i l = l.used - l.i
