use Rattle.std.proofs.Common.{◌≡◌}
use Rattle.rules.specs.Calls.{over}
use Rattle.choosing.specs.Ranks.{rises}
use Rattle.choosing.specs.Sources.{pages_below}
use Rattle.choosing.proofs.list_sources.Given as goal

abbrev pub invariant-loop-o : goal.invariant-loop-o
invariant-loop-o l = l.out ≡ over (pages_below l.v.pages l.v.number (rises l.ranks) l.o) l.initial.out
