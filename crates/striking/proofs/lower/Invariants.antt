-- The walk: the slots passed have taken what they had.
use Rattle.std.proofs.Common.{◌≤◌}
use Rattle.rules.specs.Extents.{slots_from}
use Rattle.striking.specs.Lowered.{Lowered}
use Rattle.striking.proofs.lower.Given as goal

abbrev pub invariant-loop-i : goal.invariant-loop-i
invariant-loop-i l = (l.i ≤ l.used) × Lowered l.pages l.l l.e (slots_from l.ext 0 l.i) l.initial.blk l.blk
