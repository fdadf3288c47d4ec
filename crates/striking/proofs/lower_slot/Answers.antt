-- One record stored.
use Rattle.std.proofs.Common.{refl, ap, arith}
use Rattle.rules.specs.declared.BlockRecord.{BlockRecord}
use Rattle.striking.specs.Lowered.{lowered-set}
use Rattle.striking.proofs.lower_slot.Goals as goal

pub returns : goal.returns
returns c =
    let a = c.args in
    let r = c.block_at-r in
    lowered-set a.pages a.l a.e _ _ _ a.x r.result a.blk.now _ refl c.overlap_of-gone.ensures r.ensures
    (omega arith) (omega (arith, ap (λ (x : BlockRecord). x.valid) r.ensures)) (omega arith) c.put_block.ensures
