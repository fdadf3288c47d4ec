use Rattle.std.proofs.Common.{◌-◌, ◌≤◌}
use Rattle.reclaiming.specs.Remapped.{ranked_page}
use Rattle.reclaiming.specs.Slot.{Packed}
use Rattle.reclaiming.proofs.move_map.Given as goal

abbrev pub invariant-loop-i : goal.invariant-loop-i
invariant-loop-i l =
    (l.i ≤ l.used) × Packed (ranked_page l.v.pages l.ranks l.v.number l.r) l.v.pages l.initial.ext l.i l.ext l.w

abbrev pub decreases-loop-i : goal.decreases-loop-i
decreases-loop-i l = l.used - l.i
