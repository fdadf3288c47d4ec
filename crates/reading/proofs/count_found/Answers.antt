use Rattle.std.proofs.Common.{inl, ap, length, arith}
use Rattle.reading.specs.Walk.{between-most}
use Rattle.reading.proofs.count_found.Goals as goal

pub count-requires-clause-fits : goal.count-requires-clause-fits
count-requires-clause-fits c =
    let a = c.args in
    inl (omega (arith, ap length c.new.ensures, between-most a.l a.e a.m.words.now 0 a.m.used))
