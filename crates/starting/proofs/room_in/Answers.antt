use Rattle.std.proofs.Common.{arith, sym, ne_eqb}
use Rattle.laws.specs.Spread.{taken, room_at, taken-full, taken-reserve}
use Rattle.starting.proofs.room_in.Goals as goal

pub returns-then-h-fill : goal.returns-then-h-fill
returns-then-h-fill c = sym (taken-full _ _ _ _ _ (omega arith))

pub returns-then-b-h : goal.returns-then-b-h
returns-then-b-h c = sym (taken-reserve _ _ _ _ _ (omega arith))

pub returns : goal.returns
unfolding taken room_at
returns c = rw (ne_eqb c.args.b c.args.h.reserve (omega arith)) (grind arith)
