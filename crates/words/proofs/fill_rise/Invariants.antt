use Rattle.std.proofs.Common.{◌+◌, ◌≡◌, ℕ, ◌<◌, get_or}
use Rattle.words.proofs.fill_rise.Given as goal

abbrev pub invariant-loop-k : goal.invariant-loop-k
invariant-loop-k l = (j : ℕ) → j < l.k → get_or l.ws j 0 ≡ l.x + j
