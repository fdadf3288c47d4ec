use Rattle.slots.specs.Walk.{Left}
use Rattle.slots.proofs.walk.Given as goal

abbrev pub invariant-loop-i : goal.invariant-loop-i
invariant-loop-i l = Left l.ext l.spare l.tally l.used l.n l.i l.lo l.q
