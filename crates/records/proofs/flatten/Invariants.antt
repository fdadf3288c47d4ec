use Rattle.std.proofs.Common.{◌≡◌, ◌≤◌, length, drop}
use Rattle.records.specs.Laid.{laid_at, laid}
use Rattle.records.proofs.flatten.Given as goal

-- the extents from i on are still to be laid
abbrev pub invariant-loop-i : goal.invariant-loop-i
invariant-loop-i l = (l.i ≤ length l.recs) × (laid_at l.i (drop l.i l.recs) l.words ≡ laid l.recs l.initial.words)
