use Rattle.choosing.specs.Stale.{stale_word, Most}
use Rattle.choosing.proofs.victim_of.Given as goal

abbrev pub invariant-loop-b : goal.invariant-loop-b
invariant-loop-b l = Most l.b (stale_word l.blk) l.v l.most
