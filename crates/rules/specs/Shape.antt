-- Refusal 1: the sizes, and the lengths of the lent words, as whole numbers.
use Rattle.std.specs.Prelude.{ℕ, ◌-◌, ◌*◌, Bool, ◌&&◌, leb, eqb, length}
use Rattle.rules.specs.Blocks.{stride}
use Rattle.rules.specs.Lent.{Lent}
use Rattle.rules.specs.declared.Head.{Head}

-- 01, Numbers: B 3 to 1,024; N 1 to 256; L 1 to (B-2) x N; M 1 to 8,192
unfoldable pub sizes : ℕ → ℕ → ℕ → ℕ → Bool
sizes b n l m =
    leb 3 b && leb b 1024
    && leb 1 n && leb n 256
    && leb 1 l && leb l ((b - 2) * n)
    && leb 1 m && leb m 8192

-- 01, Numbers: each length exact: extents 3M, blocks 2B, spare B x N
unfoldable pub lengths : ℕ → ℕ → ℕ → ℕ → ℕ → ℕ → Bool
lengths b n m of_extents of_blocks of_spare = eqb of_extents (3 * m) && eqb of_blocks (stride * b) && eqb of_spare (b * n)

unfoldable pub shape : Head → ℕ → ℕ → ℕ → Bool
shape h of_extents of_blocks of_spare =
    sizes h.blocks h.pages h.logical h.slots
    && lengths h.blocks h.pages h.slots of_extents of_blocks of_spare

unfoldable pub shaped : Lent → Bool
shaped s = shape s.head (length s.extent_words) (length s.block_words) (length s.spare)
