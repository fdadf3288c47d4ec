-- One turn adds one block to each of the three sums.
use Rattle.std.proofs.Common.{ap, rules}
use Rattle.rules.specs.declared.BlockRecord.{BlockRecord}
use Rattle.blocks.specs.Totals.{summed_start, summed_step}
use Rattle.blocks.proofs.totals_of.Goals as goal

pub loop-b-init : goal.loop-b-init
loop-b-init c = summed_start _ _

pub loop-b-preserved : goal.loop-b-preserved
loop-b-preserved c =
    let r = c.block_at-r in
    summed_step _ _ _ _ _ _ r.result.fill r.result.valid _ c.requires (search rules) c.loop-b.invariant
    (ap (λ (x : BlockRecord). x.fill) r.ensures) (ap (λ (x : BlockRecord). x.valid) r.ensures) c.room_of-free.ensures
