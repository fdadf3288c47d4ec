use Rattle.std.proofs.Common.{arith, rules}
use Rattle.windows.specs.Window.{compared_start, compared_step, compared_end}
use Rattle.windows.proofs.window_ok.Goals as goal

pub loop-k-init : goal.loop-k-init
loop-k-init c = compared_start _ _ _

pub loop-k-preserved : goal.loop-k-preserved
loop-k-preserved c = compared_step c.loop-k.invariant (search rules) (omega (arith, c.type_inv.ws c.loop-k.k)) (search rules)

pub returns : goal.returns
returns c = compared_end c.loop-k.invariant (search rules)
