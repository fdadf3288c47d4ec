use Rattle.blocks.specs.Totals.{Summed}
use Rattle.blocks.proofs.totals_of.Given as goal

abbrev pub invariant-loop-b : goal.invariant-loop-b
invariant-loop-b l = Summed l.h l.blk l.b l.free l.live l.stale
