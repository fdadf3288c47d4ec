use Rattle.std.proofs.Common.{ℕ, List, ap, ◌∙◌}
use Rattle.rules.specs.Blocks.{put_block}
use Rattle.reclaiming.specs.Emptied.{full, emptied}
use Rattle.reclaiming.proofs.move_blocks.Goals as goal

pub returns : goal.returns
unfolding emptied
returns c =
    let a = c.args in
    c.put_block-2.ensures
    ∙ ap (λ (ws : List ℕ). put_block ws a.v (full 0))
    (c.put_block.ensures ∙ ap (λ (k : ℕ). put_block a.blk.now a.r (full k)) c.valid_of-valid.ensures)
