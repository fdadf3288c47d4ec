use Rattle.std.proofs.Common.{arith}
use Rattle.makes.specs.Fresh.{fresh-made, fresh-some}
use Rattle.makes.proofs.make_fresh.Goals as goal

pub overflow_sub-result : goal.overflow_sub-result
overflow_sub-result c =
    let a = c.args in
    omega (arith, fresh-some a.b a.n a.l a.m a.ext.now a.blk.now a.spare.now c.requires)

pub returns : goal.returns
returns c =
    let a = c.args in
    fresh-made a.b a.n a.l a.m a.ext.now a.blk.now a.spare.now c.requires
    c.sizes_only.result c.fill_with.new.ws c.fill_with-2.new.ws c.fill_with-3.new.ws
    c.sizes_only.ensures c.fill_with.ensures c.fill_with-2.ensures c.fill_with-3.ensures
