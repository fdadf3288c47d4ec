use Rattle.std.proofs.Common.{◌≡◌, take}
use Rattle.rules.specs.Extents.{none}
use Rattle.laws.specs.Cells.{copies_into}
use Rattle.reclaiming.proofs.copy_labels.Given as goal

abbrev pub invariant-loop-i : goal.invariant-loop-i
invariant-loop-i l = l.spare ≡ copies_into none l.to (take l.i (take l.k l.out)) l.initial.spare
