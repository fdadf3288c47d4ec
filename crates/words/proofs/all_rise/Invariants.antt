use Rattle.std.proofs.Common.{◌+◌, ◌≡◌, eqb, get_or}
use Rattle.rules.specs.Counting.{all}
use Rattle.words.proofs.all_rise.Given as goal

abbrev pub invariant-loop-k : goal.invariant-loop-k
invariant-loop-k l = eqb l.off 0 ≡ all l.k (λ i. eqb (get_or l.ws i 0) (l.x + i))
