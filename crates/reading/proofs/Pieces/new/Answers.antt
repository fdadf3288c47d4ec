use Rattle.std.proofs.Common.{sym}
use Rattle.reading.specs.Walk.{walks-start, walk_start}
use Rattle.reading.proofs.Pieces.new.Goals as goal

pub invariant_of-result : goal.invariant_of-result
invariant_of-result c =
    let a = c.args in
    let p = c.requires in
    record { walk = walks-start a.m.words.now a.m.used a.first a.l a.e p.0 a.m.rising p.1 }

pub returns : goal.returns
returns c =
    let a = c.args in
    sym (walk_start a.l a.e a.first a.m.words.now a.m.used a.m.rising c.requires.1)
