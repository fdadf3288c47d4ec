use Rattle.std.proofs.Common.{arith}
use Rattle.placing.specs.Place.{placed-none, placed-some}
use Rattle.placing.proofs.place_in.Goals as goal

pub returns-then-m-eq0 : goal.returns-then-m-eq0
returns-then-m-eq0 c = placed-none _ _ _ _ _ _ _ _ (omega arith)

pub returns : goal.returns
returns c =
    let a = c.args in
    placed-some a.blk.now a.spare.now a.out.now c.raise.new.blk c.fill_rise.new.ws c.put_slot.new.ws
    a.b a.h.pages a.l a.m a.k c.fill_of.result c.fill_of.ensures (omega arith) (omega (arith, c.requires.below (omega arith)))
    c.fill_rise.ensures c.raise.ensures c.put_slot.ensures
