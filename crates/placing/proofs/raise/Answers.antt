use Rattle.std.proofs.Common.{◌∙◌, ap}
use Rattle.rules.specs.Blocks.{put_block}
use Rattle.rules.specs.declared.BlockRecord.{BlockRecord}
use Rattle.placing.specs.Blocks.{more, raised}
use Rattle.placing.proofs.raise.Goals as goal

pub returns : goal.returns
unfolding raised
returns c = c.put_block.ensures ∙ ap (λ (r : BlockRecord). put_block c.args.blk.now c.args.b (more c.args.m r)) c.block_at-r.ensures
