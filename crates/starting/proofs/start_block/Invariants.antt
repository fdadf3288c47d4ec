use Rattle.std.specs.Bool.{then_some}
use Rattle.std.proofs.Common.{ltb, ◌≤◌}
use Rattle.starting.specs.Starts.{Tried}
use Rattle.starting.proofs.start_block.Given as goal

-- `any` is the number of blocks where none takes some
abbrev pub invariant-loop-b : goal.invariant-loop-b
invariant-loop-b l = Tried l.h.pages l.h.reserve l.h.blocks l.blk l.want l.b (then_some (ltb l.any l.h.blocks) l.any) × (l.any ≤ l.h.blocks)
