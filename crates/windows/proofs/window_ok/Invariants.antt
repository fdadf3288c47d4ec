use Rattle.windows.specs.Window.{Compared}
use Rattle.windows.proofs.window_ok.Given as goal

abbrev pub invariant-loop-k : goal.invariant-loop-k
invariant-loop-k l = Compared l.ws l.mask l.e l.off l.k
