-- A read: the extents of a range of the table are the table's extents, clipped to that range.
use Rattle.std.specs.Prelude.{ℕ, ◌+◌, ◌-◌, ◌≤◌, ◌<◌, ◌≡◌, List, length, get_or, take, drop}
use Rattle.std.proofs.Common.{sym, ap, ◌∙◌, arith, length-take, length-drop, get_or-take, get_or-drop}
use Rattle.std.proofs.Math.Logic.{by_cases}
use Rattle.std.proofs.Math.Decide.{dec_lt}
use Rattle.std.proofs.Math.ListN.{get_or-eq_default}
use Rattle.rules.specs.Extents.{none, runs}
use Rattle.rules.specs.Device.{Device, lines, extents}
use Rattle.rules.specs.Read.{with_holes, found}
use Rattle.laws.specs.Unique.{unique}
use Rattle.laws.specs.Runs.{runs-rows, runs-lookup, WordLines}
use Rattle.laws.specs.Cut.{below, from, below_rows, from-rows, below-lookup, from-lookup}

pub window : (n : ℕ) → 0 < n → (a c : ℕ) (t : List ℕ) → a + c ≤ length t → WordLines t → below (a + c) (from a (runs n 0 t)) ≡ runs n a (take c (drop a t))
window n z a c t f w =
    unique n (a + c) (below (a + c) (from a (runs n 0 t))) (runs n a part) a none
    (below_rows n (length t) (a + c) (from a (runs n 0 t)) a none (omega arith)
    (from-rows n (length t) a (runs n 0 t) 0 none (omega arith) (runs-rows n z t 0 (length t) w (omega arith))))
    (runs-rows n z part a (a + c) words (omega (arith, size)))
    (λ l g h. below-lookup (a + c) (from a (runs n 0 t)) l h ∙ from-lookup a (runs n 0 t) l g ∙ runs-lookup n z t 0 l (a + (l - a)) w (omega arith)
    ∙ sym (at (l - a) (omega arith)) ∙ sym (runs-lookup n z part a l (l - a) words (omega arith)))
  where
    part : List ℕ
    part = take c (drop a t)

    size : length part ≡ c
    size = length-take c (drop a t) ∙ omega (arith, length-drop a t)

    at : (i : ℕ) → i < c → get_or part i none ≡ get_or t (a + i) none
    at i h = get_or-take c (drop a t) i none h ∙ get_or-drop a t i none

    words : WordLines part
    words i =
        by_cases (dec_lt i c)
        (λ g. omega (arith, at i g, w (a + i)))
        (λ g. omega (arith, get_or-eq_default part none {n = i} (omega (arith, size))))

-- what a read answers: the map's extents, clipped to the range, and the holes between them
pub found-window : (l n : ℕ) (d : Device) → 0 < d.pages → l + n ≤ lines d → WordLines d.table
    → found l n d ≡ with_holes l (l + n) (below (l + n) (from l (extents d)))
unfolding found extents
found-window l n d z h w = ap (with_holes l (l + n)) (sym (window d.pages z l n d.table h w))
