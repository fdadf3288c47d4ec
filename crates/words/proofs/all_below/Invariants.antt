use Rattle.std.proofs.Common.{◌≡◌, ltb, get_or}
use Rattle.rules.specs.Counting.{all}
use Rattle.words.proofs.all_below.Given as goal

abbrev pub invariant-loop-w : goal.invariant-loop-w
invariant-loop-w l = l.ok ≡ all l.w-index (λ i. ltb (get_or l.ws i 0) l.top)
