-- Nothing comes in, or the lent part comes back moved up, and then its first words with the pieces in them.
use Rattle.std.proofs.Common.{arith}
use Rattle.map.specs.Padded.{holds-none, holds-insert}
use Rattle.map.proofs.insert.Goals as goal

pub returns-then-k-lt1 : goal.returns-then-k-lt1
returns-then-k-lt1 c =
    let a = c.args in
    holds-none a.ext.now a.used c.requires.0 a.i a.k a.new.now (omega arith)

pub returns : goal.returns
returns c =
    let a = c.args in
    holds-insert a.ext.now a.used c.requires.0 a.i a.k a.new.now (omega arith) (omega arith) (omega arith) _ _ c.shift_up.ensures c.put_words.ensures
