use Rattle.windows.specs.Window.{Going}
use Rattle.windows.proofs.windows_ok.Given as goal

abbrev pub invariant-loop-k : goal.invariant-loop-k
invariant-loop-k l = Going l.ws l.l l.k
