use Rattle.std.proofs.Common.{◌≡◌, eqb, get_or}
use Rattle.rules.specs.Counting.{all}
use Rattle.words.proofs.all_are.Given as goal

abbrev pub invariant-loop-w : goal.invariant-loop-w
invariant-loop-w l = eqb l.off 0 ≡ all l.w-index (λ i. eqb (get_or l.ws i 0) l.x)
