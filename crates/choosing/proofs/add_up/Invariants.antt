use Rattle.std.proofs.Common.{◌≡◌, ◌≤◌}
use Rattle.words.specs.Store.{stored}
use Rattle.choosing.specs.Ranks.{sums}
use Rattle.choosing.proofs.add_up.Given as goal

abbrev pub invariant-loop-o : goal.invariant-loop-o
invariant-loop-o l =
    let before = l.initial.marks in
    (l.k ≡ sums before l.o) × (l.k ≤ l.o) × (l.marks ≡ stored (sums before) l.o before)
