use Rattle.std.proofs.Common.{ℕ, ◌<◌}
use Rattle.blocks.specs.Block.{Block}
use Rattle.blocks.proofs.labels_ok.Given as goal

abbrev pub invariant-loop-b : goal.invariant-loop-b
invariant-loop-b l = (k : ℕ) → k < l.b → Block l.blk l.spare l.n l.top k
