-- The first piece makes the extent in front of it longer, or comes in with the others.
use Rattle.putting.specs.Fills.{apart-done, joined-next, joined-done}
use Rattle.putting.proofs.put_pieces.Goals as goal

pub fill_gap-requires : goal.fill_gap-requires
fill_gap-requires c =
    let a = c.args in
    let g = a.gap in
    joined-next a.ext.now g.used g.from g.to a.joined a.new.now a.k c.requires c.if-joined.true _ (rw c.slot_at-first.ensures at c.lengthen.ensures)

pub returns-then-joined : goal.returns-then-joined
returns-then-joined c =
    let a = c.args in
    let g = a.gap in
    joined-done a.ext.now g.used g.from g.to a.joined a.new.now a.k c.requires c.if-joined.true _ (rw c.slot_at-first.ensures at c.lengthen.ensures) _ _ c.fill_gap.ensures

pub returns : goal.returns
returns c =
    let a = c.args in
    let g = a.gap in
    apart-done a.ext.now g.used g.from g.to a.joined a.new.now a.k c.requires c.if-joined.false _ _ c.fill_gap-2.ensures
