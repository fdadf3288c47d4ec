use Rattle.std.proofs.Common.{below_more, rules}
use Rattle.blocks.specs.Block.{labels-block}
use Rattle.blocks.proofs.labels_ok.Goals as goal

pub loop-b-preserved : goal.loop-b-preserved
loop-b-preserved c =
    below_more _ _ c.loop-b.invariant (labels-block c.requires (search rules) _ c.fill_of.ensures (c.block_ok.ensures.yes c.if-not-block_ok.false))
