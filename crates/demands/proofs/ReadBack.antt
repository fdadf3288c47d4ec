-- A read of one page: it is accepted, and its answer is one piece that names the line's page or a hole.
use Rattle.std.specs.Prelude.{ℕ, ◌+◌, ◌-◌, ◌≤◌, ◌<◌, ◌≡◌, List, [], ◌∷◌, length, take}
use Rattle.std.proofs.Common.{sym, ap, ◌∙◌, arith, lt-ltb, le-ltb, drop-cons}
use Rattle.std.proofs.Math.Logic.{by_cases}
use Rattle.std.proofs.Math.Decide.{ℕ_discrete}
use Rattle.rules.specs.Extents.{none, extent, join, runs, flat}
use Rattle.rules.specs.Device.{Device, lines, at}
use Rattle.rules.specs.Read.{with_hole, with_holes, found}
use Rattle.rules.specs.Calls.{Call, refusal, lists}
use Rattle.rules.specs.declared.Extent.{Extent}
use Rattle.laws.specs.Runs.{runs-hole, runs-page}
use Rattle.laws.specs.Kept.{passes}

hole-some : (a : ℕ) → with_hole a (a + 1) [] ≡ extent a none 1 ∷ []
unfolding with_hole
hole-some a = let e : a + 1 - a ≡ 1 = omega arith in rw (lt-ltb a (a + 1) (omega arith), e)

hole-none : (a : ℕ) (es : List Extent) → with_hole a a es ≡ es
unfolding with_hole
hole-none a es = rw (le-ltb a a (omega arith))

line-found : (n l p : ℕ) → with_holes l (l + 1) (runs n l (p ∷ [])) ≡ extent l p 1 ∷ []
unfolding with_holes runs join
line-found n l p =
    by_cases (ℕ_discrete p none)
    (λ e. ap (with_holes l (l + 1)) (runs-hole n l p [] e) ∙ hole-some l ∙ sym (ap (λ (x : ℕ). extent l x 1 ∷ []) e))
    (λ m. ap (with_holes l (l + 1)) (runs-page n l p [] m) ∙ hole-none l (extent l p 1 ∷ with_hole (l + 1) (l + 1) [])
    ∙ ap (λ (es : List Extent). extent l p 1 ∷ es) (hole-none (l + 1) []))

pub found-one : (l : ℕ) (d : Device) → l < lines d → found l 1 d ≡ extent l (at d l) 1 ∷ []
unfolding found
found-one l d h =
    ap (λ (t : List ℕ). with_holes l (l + 1) (runs d.pages l (take 1 t))) (drop-cons d.table l none h)
    ∙ line-found d.pages l (at d l)

pub read-passes : (l : ℕ) (out : List ℕ) (d : Device) → l < lines d → 3 ≤ length out → refusal (Call.read l 1 out) d ≡ 0
read-passes l out d h r =
    passes (Call.read l 1 out) d (record { range = record { some = omega arith; inside = omega arith }; room = omega (arith, ap length (found-one l d h)) })

pub read_one-lists : (l : ℕ) (d : Device) → l < lines d → (out : List ℕ) → lists (Call.read l 1 out) d ≡ l ∷ at d l ∷ 1 ∷ []
unfolding lists flat
read_one-lists l d h out = ap flat (found-one l d h)
