use Rattle.choosing.specs.Over.{Tested}
use Rattle.choosing.proofs.free_of.Given as goal

abbrev pub invariant-loop-k : goal.invariant-loop-k
invariant-loop-k l = Tested l.ws l.v.pages l.v.number l.least l.k
