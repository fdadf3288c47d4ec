-- Pieces stored in the gap, then what is left of it closed, then the other pieces let in.
use Rattle.putting.specs.Fills.{close_ready, insert-ready, gap-filled}
use Rattle.putting.proofs.fill_gap.Goals as goal

pub close-requires : goal.close-requires
close-requires c =
    let a = c.args in
    let g = a.gap in
    let f = c.min-fits in
    close_ready a.ext.now g.used g.from g.to a.new.now a.s a.k c.requires f.result f.ensures _ c.put_words.ensures

pub insert-requires : goal.insert-requires
insert-requires c =
    let a = c.args in
    let g = a.gap in
    let f = c.min-fits in
    insert-ready a.ext.now g.used g.from g.to a.new.now a.s a.k c.requires f.result f.ensures _ c.put_words.ensures _ c.close.ensures

pub returns : goal.returns
returns c =
    let a = c.args in
    let g = a.gap in
    let f = c.min-fits in
    gap-filled a.ext.now g.used g.from g.to a.new.now a.s a.k c.requires f.result f.ensures _ c.put_words.ensures _ c.close.ensures _ c.insert.ensures
