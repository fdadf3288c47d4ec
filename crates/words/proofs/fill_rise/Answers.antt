use Rattle.std.proofs.Common.{arith}
use Rattle.words.specs.Store.{tabulated}
use Rattle.words.proofs.fill_rise.Goals as goal

pub returns : goal.returns
returns c = tabulated _ _ _ (omega arith) (λ j s. c.loop-k.invariant j (omega arith))
