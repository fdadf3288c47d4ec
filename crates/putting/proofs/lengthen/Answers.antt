use Rattle.std.proofs.Common.{arith}
use Rattle.putting.specs.Fills.{lengthened-set}
use Rattle.putting.proofs.lengthen.Goals as goal

pub returns : goal.returns
returns c =
    let a = c.args in
    lengthened-set a.ext.now a.used a.i a.c _ _ c.requires.0 (omega arith) (omega arith) c.slot_at-x.ensures c.put_slot.ensures
