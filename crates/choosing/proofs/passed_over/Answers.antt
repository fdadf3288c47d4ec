use Rattle.std.proofs.Common.{arith}
use Rattle.choosing.specs.Over.{part-elsewhere}
use Rattle.choosing.proofs.passed_over.Goals as goal

pub returns : goal.returns
returns c =
    let a = c.args in
    let free = c.free_of in
    (omega arith, part-elsewhere a.ext.now a.i free.result a.v.pages a.v.number free.ensures.0 (omega arith) free.ensures.1)
