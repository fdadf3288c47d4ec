-- The lent part comes back moved down.
use Rattle.std.proofs.Common.{arith}
use Rattle.map.specs.Padded.{holds_close}
use Rattle.map.proofs.close.Goals as goal

pub returns : goal.returns
returns c =
    let a = c.args in
    holds_close a.ext.now a.used c.requires.0 a.a a.z (omega arith) (omega arith) _ c.shift_down.ensures
