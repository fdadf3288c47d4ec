-- Reading over the words of more extents than a state can have slots is refused with Shape.
use Rattle.std.specs.Prelude.{ℕ, ◌<◌, ◌≡◌, List, Err}
use Rattle.std.proofs.Common.{arith, sym}
use Rattle.rules.specs.Lent.{lent}
use Rattle.rules.specs.Answers.{listed, outcome}
use Rattle.rules.specs.Calls.{Call, refused, call}
use Rattle.rules.specs.declared.Head.{Head}
use Rattle.rules.specs.declared.Refusal.{Refusal}
use Rattle.laws.specs.Bools.{never}
use Rattle.laws.specs.Shapes.{shaped-true}
use Rattle.laws.specs.Calls.{call_shape}
use Rattle.records.specs.Laid.{First}

-- 01, Numbers: M 1 to 8,192
pub too_many_lem : (h : Head) (ext blk spare : List ℕ) (l n : ℕ) (out ws : List ℕ) (k : ℕ) → First ws k ext → 8192 < k
    → outcome (listed h (Err Refusal.Shape)) ext blk spare out ≡ call (Call.read l n out) (lent h ext blk spare)
unfolding refused
too_many_lem h ext blk spare l n out ws k f many =
    sym
    (call_shape (Call.read l n out) (lent h ext blk spare)
    (never _ (λ t. let s = shaped-true (lent h ext blk spare) t in omega (arith, s.sizes.m-high, s.extents, f.all, many))))
