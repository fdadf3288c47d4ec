-- Slots that a reclaim passes over: those that do not lie in its victim.
use Rattle.std.specs.Prelude.{◌≡◌, ℕ, ◌+◌, ◌-◌, ◌*◌, ◌/◌, ◌<◌, ◌≤◌, List, length, take, drop, ◌≢◌, slice_index}
use Rattle.std.proofs.Common.{ap, ◌∙◌, arith}
use Rattle.rules.specs.Extents.{slot}
use Rattle.words.specs.Parts.{part_at}

-- the slots from i on, k of them, lie in other blocks than v
abbrev pub Elsewhere : List ℕ → ℕ → ℕ → ℕ → ℕ → Type 0
Elsewhere ws i k n v = (j : ℕ) → j < k → (slot ws (i + j)).physical / n ≢ v

-- k slots are tested, of which none is nearer to block v than `least`
abbrev pub Tested : List ℕ → ℕ → ℕ → ℕ → ℕ → Type 0
Tested ws n v least k = n ≤ least → Elsewhere ws 0 k n v

-- sixteen slots of a part
pub part-elsewhere : (ws : List ℕ) (i r n v : ℕ) → r ≤ 16 → 3 * i + 48 ≤ length ws → Elsewhere (take (3 * i + 48 - 3 * i) (drop (3 * i) ws)) 0 r n v → Elsewhere ws i r n v
part-elsewhere ws i r n v s l f j h g =
    let at : 3 * i + (3 * (0 + j) + 1) ≡ 3 * (i + j) + 1 = omega arith in
    let same = part_at (3 * i) (3 * i + 48) ws (omega arith) l (3 * (0 + j) + 1) (omega arith) in
    f j h (ap (λ (p : ℕ). p / n) (same ∙ ap (λ (k : ℕ). slice_index ws k) at) ∙ g)
