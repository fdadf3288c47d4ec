-- The record of a block: fill, valid. This is the one place that knows how many words it has and in which order.
use Rattle.std.specs.Prelude.{ℕ, ◌+◌, ◌*◌, ◌≤◌, List, [], ◌∷◌, length, get_or, set}
use Rattle.rules.specs.declared.BlockRecord.{BlockRecord}

-- 01, Numbers: blocks 2B (fill, valid)
abbrev pub stride : ℕ
stride = 2

abbrev pub fill_word : List ℕ → ℕ → ℕ
fill_word ws b = get_or ws (stride * b) 0

abbrev pub valid_word : List ℕ → ℕ → ℕ
valid_word ws b = get_or ws (stride * b + 1) 0

-- the words go as far as the record of block b
abbrev pub HasBlock : List ℕ → ℕ → Type 0
HasBlock ws b = stride * (b + 1) ≤ length ws

-- the record of block b, and another in its place
abbrev pub block_at : List ℕ → ℕ → BlockRecord
block_at ws b = record { fill = fill_word ws b; valid = valid_word ws b }

unfoldable pub put_block : List ℕ → ℕ → BlockRecord → List ℕ
put_block ws b r = set (set ws (stride * b) r.fill) (stride * b + 1) r.valid

-- the records of blocks b, b + 1, .., whose fills are given and whose valid counts a function gives
unfoldable pub records : List ℕ → ℕ → (ℕ → ℕ) → List ℕ
records [] b valid = []
records (f ∷ fs) b valid = f ∷ valid b ∷ records fs (b + 1) valid
