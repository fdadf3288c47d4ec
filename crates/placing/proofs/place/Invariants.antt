use Rattle.placing.specs.Way.{Placing}
use Rattle.placing.proofs.place.Given as goal

abbrev pub invariant-loop-b : goal.invariant-loop-b
invariant-loop-b l = Placing l.h.pages l.h.reserve l.h.blocks l.from l.l l.want l.initial.blk l.initial.spare l.initial.out l.blk l.spare l.out l.b l.done l.k
