-- What a read answers.
use Rattle.std.specs.Prelude.{ℕ, ◌+◌, ◌-◌, cond, List, [], ◌∷◌, ltb, take, drop}
use Rattle.rules.specs.Extents.{none, extent, end, runs}
use Rattle.rules.specs.Device.{Device}
use Rattle.rules.specs.declared.Extent.{Extent}

-- the hole from a up to b, where there is one, in front of pieces
unfoldable pub with_hole : ℕ → ℕ → List Extent → List Extent
with_hole a b es = cond (ltb a b) (extent a none (b - a) ∷ es) es

-- pieces in logical order from a up to b, with each maximal hole between them
unfoldable pub with_holes : ℕ → ℕ → List Extent → List Extent
with_holes a b [] = with_hole a b []
with_holes a b (e ∷ es) = with_hole a e.logical (e ∷ with_holes (end e) b es)

-- 01, read: pieces in logical order: each overlapping extent, clipped: the extents of these n lines alone; and each maximal hole
unfoldable pub found : ℕ → ℕ → Device → List Extent
found l n d = with_holes l (l + n) (runs d.pages l (take n (drop l d.table)))
