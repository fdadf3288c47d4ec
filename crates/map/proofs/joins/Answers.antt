use Rattle.std.proofs.Common.{◌≡◌, ◌+◌, ◌/◌, ◌&&◌, nat_eq, refl, sym, ◌∙◌, eq-eqb, ne_eqb}
use Rattle.rules.specs.Extents.{joinable}
use Rattle.map.proofs.joins.Goals as goal
use Rattle.map.proofs.joins.Goals.{Joined-a-n, then-a-n, else-a-n}

-- the first two tests
two : (c : Joined-a-n) → c.if-a-n.value ≡ (nat_eq (c.args.a.physical / c.args.n) (c.args.b.physical / c.args.n)
    && nat_eq c.args.b.logical (c.args.a.logical + c.args.a.count))
two c = elim c.if-a-n.branch [
  | then-a-n w ↦ rw (w.value-is, eq-eqb _ _ w.if-a-n.true) refl
  | else-a-n w ↦ rw (w.value-is, ne_eqb _ _ w.if-a-n.false) refl
]

pub returns-then-b-a : goal.returns-then-b-a
unfolding joinable
returns-then-b-a c = rw (sym (two (goal.at.returns-then-b-a c).Joined-a-n) ∙ c.if-b-a.true) refl

pub returns-else-b-a : goal.returns-else-b-a
unfolding joinable
returns-else-b-a c = rw (sym (two (goal.at.returns-else-b-a c).Joined-a-n) ∙ c.if-b-a.false, c.if-b-a.false) refl
