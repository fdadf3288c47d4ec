use Rattle.std.proofs.Common.{◌≡◌, eqb}
use Rattle.rules.specs.Counting.{all}
use Rattle.blocks.specs.Block.{tallied}
use Rattle.blocks.proofs.valid_ok.Given as goal

abbrev pub invariant-loop-b : goal.invariant-loop-b
invariant-loop-b l = eqb l.off 0 ≡ all l.b (tallied l.blk l.tally)
