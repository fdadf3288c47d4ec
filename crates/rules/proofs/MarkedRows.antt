-- The marked tables as equations: what comes out of each row is what must.
use Rattle.std.specs.Prelude.{Bool, true, false, ◌&&◌, ◌≡◌, refl, List, [], ◌∷◌, eqb}
use Rattle.std.proofs.lemmas.Bool.{false≢true}
use Rattle.std.proofs.Common.{ap₂, eqb-true}
use Rattle.rules.specs.Cases.{Case, comes, musts, same_by, holds}
use Rattle.rules.specs.Marked.{marked, marked02}
use Rattle.rules.proofs.Marked.{marked-holds, marked02-holds}

both : (a b : Bool) → (a && b) ≡ true → (a ≡ true) × (b ≡ true)
both true b e = (refl, e)
both false b e = absurd (false≢true e)

-- a test that tells equal things tells equal lists of them
pub same_by_lem : {A : Type 0} (t : A → A → Bool) → ((x y : A) → t x y ≡ true → x ≡ y) → (xs ys : List A) → same_by t xs ys ≡ true → xs ≡ ys
unfolding same_by
same_by_lem t f [] [] e = refl
same_by_lem t f [] (y ∷ ys) e = absurd (false≢true e)
same_by_lem t f (x ∷ xs) [] e = absurd (false≢true e)
same_by_lem {A} t f (x ∷ xs) (y ∷ ys) e =
    let h = both (t x y) (same_by t xs ys) e in
    ap₂ (λ (a : A) (r : List A). a ∷ r) (f x y h.0) (same_by_lem t f xs ys h.1)

comes-out : (cs : List Case) → holds cs ≡ true → comes cs ≡ musts cs
unfolding holds
comes-out cs e = same_by_lem (same_by (same_by eqb)) (same_by_lem (same_by eqb) (same_by_lem eqb eqb-true)) (comes cs) (musts cs) e

-- P1 to P12
pub marked-comes : comes marked ≡ musts marked
marked-comes = comes-out marked marked-holds

-- what 02 adds
pub marked02-comes : comes marked02 ≡ musts marked02
marked02-comes = comes-out marked02 marked02-holds
