use Rattle.std.proofs.Common.{◌<◌, length, get_or, arith}
use Rattle.choosing.specs.Ranks.{rises, rise_true, rise_false, rank_below}
use Rattle.choosing.specs.Sources.{listed_start, listed-live, listed-other, listed-end}
use Rattle.choosing.proofs.list_sources.Goals as goal
use Rattle.choosing.proofs.list_sources.Goals.{then-rank-ranks, else-rank-ranks}

pub loop-o-init : goal.loop-o-init
loop-o-init c = listed_start c.args.v.pages c.args.v.number (rises c.args.ranks.now) c.args.out.now

-- a page that is listed has room
pub bounds-out-rank : goal.bounds-out-rank
bounds-out-rank c =
    let a = c.args in
    let ranks = a.ranks.now in
    let o = c.loop-o.o in
    omega (arith, rank_below a.v.pages (rises ranks) ranks c.requires.0 o (omega arith) (rise_true ranks o (omega arith)))

pub loop-o-preserved : goal.loop-o-preserved
loop-o-preserved c =
    let l = c.loop-o in
    let a = c.args in
    let ranks = a.ranks.now in
    let live = rises ranks in
    let ranked = c.requires.0 in
    elim c.if-rank-ranks.branch [
      | then-rank-ranks w ↦
          let rise = rise_true ranks l.o (omega arith) in
          let room : get_or ranks l.o 0 < length a.out.now = omega (arith, rank_below a.v.pages live ranks ranked l.o (omega arith) rise) in
          rw (w.out-is, w.first.ensures) (listed-live a.v.pages a.v.number live a.out.now l.o (get_or ranks l.o 0) l.out l.invariant rise (ranked.rank l.o (omega arith)) room)
      | else-rank-ranks w ↦ rw w.out-is (listed-other a.v.pages a.v.number live a.out.now l.o l.out l.invariant (rise_false ranks l.o (omega arith)))
    ]

pub returns : goal.returns
returns c = listed-end c.args.v.pages c.args.v.number (rises c.args.ranks.now) c.args.out.now c.loop-o.o c.loop-o.out c.loop-o.invariant (omega arith)
