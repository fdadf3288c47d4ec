-- The extents of a device's map after each call, from those before it; and how many there are at most.
use Rattle.std.specs.Prelude.{ℕ, ◌+◌, ◌/◌, ◌%◌, ◌≤◌, ◌<◌, ◌≡◌, List, map, length}
use Rattle.std.proofs.Common.{sym, ap, ◌∙◌, subst, arith, suc-mul}
use Rattle.std.proofs.Math.Path.{fun_ext}
use Rattle.std.proofs.Math.Arith.{digits_mod}
use Rattle.std.proofs.lemmas.List.{length-map}
use Rattle.rules.specs.Extents.{none, runs}
use Rattle.rules.specs.Device.{Device, blocks, lines, named, stale, extents}
use Rattle.rules.specs.Placement.{puts_at, places_at}
use Rattle.rules.specs.Request.{with_table, trimmed}
use Rattle.rules.specs.Reclaim.{victim, goes, reclaimed_at, reclaimed}
use Rattle.laws.specs.Cells.{block_le}
use Rattle.laws.specs.Runs.{runs-rows, runs-lookup, runs-length}
use Rattle.laws.specs.Cut.{cut}
use Rattle.laws.specs.Trim.{cut-trims}
use Rattle.laws.specs.Write.{place, write-place}
use Rattle.laws.specs.Norm.{norm, norm-length, move, Steadies, move-runs, goes_moves, moves_to_steadies}
use Rattle.laws.specs.Device.{SoundDevice, none-block}
use Rattle.laws.specs.Placed.{Opens, puts-table, puts-pages, length-places, places-small}
use Rattle.laws.specs.States.{table-lines}
use Rattle.laws.specs.Reclaimed.{goes-hole, within}
use Rattle.laws.specs.Gains.{victim-chosen}

-- a write: the pieces of the answer, put in between what lies below the range and what lies above it
pub write-extents : (l : ℕ) (bs : List ℕ) (d : Device) → SoundDevice d → Opens l bs d → l + length bs ≤ lines d
    → place d.pages l (l + length bs) (runs d.pages l (places_at l bs d)) (extents d) ≡ extents (puts_at l bs d)
unfolding extents
write-extents l bs d s v h =
    let e = length-places l bs d in
    let r = write-place d.pages s.some l (places_at l bs d) d.table (omega arith) (places-small l bs d s v h) (table-lines d s) in
    rw (puts-pages l bs d, puts-table l bs d) (rw e at r)

pub trim-extents : (k l n : ℕ) (d : Device) → SoundDevice d → 0 < n → l + n ≤ lines d → cut l (l + n) (extents d) ≡ extents (trimmed k l n d)
unfolding extents trimmed with_table
trim-extents k l n d s z h = cut-trims d.pages s.some l n d.table z h (table-lines d s)

-- a reclaim: each extent moved whole, then joined
pub reclaim-extents : (d : Device) → SoundDevice d → (v : ℕ) → v < blocks d → (v ≡ d.reserve → ⊥)
    → norm d.pages (map (move (goes v d.reserve d)) (extents d)) ≡ extents (reclaimed_at v d)
unfolding extents reclaimed_at
reclaim-extents d s v a e =
    move-runs d.pages s.some (goes v d.reserve d) (goes-hole v d.reserve d) d.table (table-lines d s)
    (subst (λ (g : ℕ → ℕ). Steadies d.pages g (runs d.pages 0 d.table)) (sym (fun_ext (goes_moves v d.reserve d (none-block d s v a))))
    (moves_to_steadies d.pages s.some (named d v) v d.reserve (lines d) (runs d.pages 0 d.table) 0 none
    (omega (arith, suc-mul d.reserve d.pages, block_le d.pages d.reserve (blocks d) s.kept, s.words))
    (runs-rows d.pages s.some d.table 0 (lines d) (table-lines d s) (omega arith))
    (λ l m q. let g = runs-lookup d.pages s.some d.table 0 l l (table-lines d s) (omega arith) in
    let w = within d s v a e l (sym (ap (λ (x : ℕ). x / d.pages) g) ∙ q) in
    ap (named d v) (ap (λ (x : ℕ). x % d.pages) (g ∙ w.is) ∙ digits_mod v (omega (arith, w.below, s.full v a))) ∙ w.live)))

-- ---- how many

-- at most one a line
pub extents-lines : (d : Device) → length (extents d) ≤ lines d
unfolding extents
extents-lines d = runs-length d.pages 0 d.table

-- a reclaim needs no slot more
pub reclaim-shrinks : (d : Device) → SoundDevice d → 0 < stale d → length (extents (reclaimed d)) ≤ length (extents d)
unfolding reclaimed
reclaim-shrinks d s h =
    let c = victim-chosen d s h in
    let v = victim d in
    let g : ℕ → ℕ = goes v d.reserve d in
    omega (arith, ap length (reclaim-extents d s v c.inside c.other), norm-length d.pages (map (move g) (extents d)), length-map (extents d) (move g))
