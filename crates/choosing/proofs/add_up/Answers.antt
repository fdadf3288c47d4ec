use Rattle.std.proofs.Common.{◌≡◌, arith}
use Rattle.words.specs.Store.{stored-start}
use Rattle.choosing.specs.Ranks.{sums, sums_none, sums-more, sums_store, sums-read}
use Rattle.choosing.proofs.add_up.Goals as goal

pub loop-o-init : goal.loop-o-init
loop-o-init c = (sums_none c.args.marks.now, omega arith, stored-start (sums c.args.marks.now) c.args.marks.now)

-- the mark that is read is 0 or 1
pub overflow_add-k : goal.overflow_add-k
overflow_add-k c =
    let l = c.loop-o in
    omega (arith, sums-read c.args.marks.now l.marks l.o l.invariant.2, c.requires.2 l.o (omega arith))

pub loop-o-preserved : goal.loop-o-preserved
loop-o-preserved c =
    let l = c.loop-o in
    let ms = c.args.marks.now in
    let e = l.invariant.2 in (
      omega (arith, sums-more ms l.marks l.k l.o e l.invariant.0),
      omega (arith, sums-read ms l.marks l.o e, c.requires.2 l.o (omega arith)),
      sums_store ms l.marks l.k l.o (omega arith) e l.invariant.0,
    )

pub returns : goal.returns
returns c =
    let l = c.loop-o in
    let end : l.o ≡ c.args.n = omega arith in
    rw (← end) (sums_store c.args.marks.now l.marks l.k l.o (omega arith) l.invariant.2 l.invariant.0)
