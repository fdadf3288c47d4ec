-- The end, the piece of a slot, or a hole.
use Rattle.std.proofs.Common.{ap, arith, rules, length}
use Rattle.rules.specs.declared.Extent.{Extent}
use Rattle.reading.specs.Walk.{walks-over, walks-hole, walks-piece}
use Rattle.reading.proofs.PiecesIterator.next.Goals as goal
use Rattle.reading.proofs.PiecesIterator.next.Goals.{then-self+else-x-pos, else-self}

pub returns-then-self-pos-clause-steps : goal.returns-then-self-pos-clause-steps
returns-then-self-pos-clause-steps c =
    let s = c.args.self.now in
    let none = walks-over s.m.words.now s.m.used s.i s.pos s.e s.m.rising s.walk (omega arith) in
    (none, none)

pub returns-then-x-pos-clause-steps : goal.returns-then-x-pos-clause-steps
returns-then-x-pos-clause-steps c =
    let s = c.args.self.now in
    walks-piece s.m.words.now s.m.used s.i s.pos s.e s.m.rising s.walk (omega arith) c.slot_at-x.result c.min-reach.result c.slot_at-x.ensures (omega arith) (omega arith) (omega arith)

pub returns-then-x-pos-clause-goes : goal.returns-then-x-pos-clause-goes
returns-then-x-pos-clause-goes c =
    let s = c.args.self.now in
    let piece = walks-piece s.m.words.now s.m.used s.i s.pos s.e s.m.rising s.walk (omega arith) c.slot_at-x.result c.min-reach.result c.slot_at-x.ensures (omega arith) (omega arith) (omega arith) in
    search (rules, ap length piece)

pub returns-clause-steps : goal.returns-clause-steps
returns-clause-steps c =
    let s = c.args.self.now in
    let hole = walks-hole s.m.words.now s.m.used s.i s.pos s.e s.m.rising s.walk c.if-self.stop in
    elim c.if-self.branch [
      | then-self+else-x-pos w ↦ let x = ap (λ (y : Extent). y.logical) w.slot_at-x.ensures in
          hole (omega arith) (omega arith) (λ k. omega (arith, x)) (λ t. (omega arith, omega (arith, x)))
      | else-self w ↦ hole (omega arith) (omega arith) (λ k. absurd (omega arith)) (λ t. absurd (omega arith))
    ]

pub returns-clause-goes : goal.returns-clause-goes
returns-clause-goes c = search (rules, ap length (returns-clause-steps c))
