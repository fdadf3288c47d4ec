-- The bits in which a valid count differs from the tally, gathered over all blocks.
use Rattle.std.proofs.Common.{arith}
use Rattle.words.specs.Scan.{scan-none}
use Rattle.blocks.specs.Block.{valid-step, valid-says}
use Rattle.blocks.proofs.valid_ok.Goals as goal

pub loop-b-init : goal.loop-b-init
loop-b-init c = scan-none _

pub loop-b-preserved : goal.loop-b-preserved
loop-b-preserved c =
    let o = c.loop-b in
    valid-step c.args.blk.now c.args.tally.now o.b o.off _ c.valid_of.ensures o.invariant

pub returns : goal.returns
returns c = valid-says c.args.blk.now c.args.tally.now _ _ c.loop-b.off (omega arith) c.loop-b.invariant
