use Rattle.std.proofs.Common.{◌≡◌, ◌+◌, ◌≤◌}
use Rattle.starting.specs.Rest.{how_many}
use Rattle.starting.proofs.pieces_of.Given as goal

abbrev pub invariant-loop-b : goal.invariant-loop-b
invariant-loop-b l = (l.count ≤ l.b) × (l.count + how_many l.h.pages l.h.reserve l.h.blocks l.blk l.b l.left ≡ how_many l.h.pages l.h.reserve l.h.blocks l.blk l.from l.want)
