-- P1 to P12 of document 01 and what document 02 adds: one statement about the definitions for each table, which holds by computing.
use Rattle.std.specs.Prelude.{true, ◌≡◌, refl}
use Rattle.rules.specs.Opened.{opened}
use Rattle.rules.specs.Cases.{answer_of, look_at, next, after_all, seen, left, start, begun, comes_from, comes, musts, same_by, holds}
use Rattle.rules.specs.Marked.{marked, marked02}

pub marked-holds : holds marked ≡ true
unfolding opened
    answer_of look_at next after_all seen left start begun comes_from comes musts same_by holds
marked-holds = refl

pub marked02-holds : holds marked02 ≡ true
unfolding opened
    answer_of look_at next after_all seen left start begun comes_from comes musts same_by holds
marked02-holds = refl
