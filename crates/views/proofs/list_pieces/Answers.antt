use Rattle.std.proofs.Common.{arith}
use Rattle.state.specs.Seen.{lent_of}
use Rattle.views.specs.Reads.{read-inside, read_fits, read-few}
use Rattle.views.proofs.list_pieces.Goals as goal

pub overflow_add-l : goal.overflow_add-l
overflow_add-l c =
    let a = c.args in
    omega (arith, read-inside a.l a.n a.out.now (lent_of a.s) c.requires.0)

pub list_found-requires-clause-room : goal.list_found-requires-clause-room
list_found-requires-clause-room c =
    let a = c.args in
    rw c.of.ensures (read_fits a.l a.n a.out.now (lent_of a.s) c.requires.0)

pub overflow_cast-result : goal.overflow_cast-result
overflow_cast-result c =
    let a = c.args in
    omega (arith, read-few a.l a.n a.out.now (lent_of a.s) c.requires.0, rw c.of.ensures at c.list_found.ensures.0)
