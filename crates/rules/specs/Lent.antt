-- What is lent: the head by value, and the words of the extents, of the blocks and of the spare areas.
use Rattle.std.specs.Prelude.{ℕ, ◌/◌, ◌%◌, List, get_or}
use Rattle.rules.specs.Extents.{none, slot, slots_from}
use Rattle.rules.specs.Blocks.{fill_word, valid_word}
use Rattle.rules.specs.declared.Head.{Head}
use Rattle.rules.specs.declared.Extent.{Extent}

pub record Lent : Type 0 where
  pub head : Head
  -- 3M words: logical start, physical start and page count of each slot
  pub extent_words : List ℕ
  -- the records of the blocks
  pub block_words : List ℕ
  -- B x N words: the spare entry of each page
  pub spare : List ℕ

abbrev pub lent : Head → List ℕ → List ℕ → List ℕ → Lent
lent h extent_words block_words spare = record { head = h; extent_words = extent_words; block_words = block_words; spare = spare }

-- extent slot i
abbrev pub slot_of : Lent → ℕ → Extent
slot_of s i = slot s.extent_words i

-- the extents in use: they fill the first slots
abbrev pub in_use : Lent → List Extent
in_use s = slots_from s.extent_words 0 s.head.used

abbrev pub fill_of : Lent → ℕ → ℕ
fill_of s b = fill_word s.block_words b

abbrev pub valid_of : Lent → ℕ → ℕ
valid_of s b = valid_word s.block_words b

-- the spare entry of page p
abbrev pub label_of : Lent → ℕ → ℕ
label_of s p = get_or s.spare p none

-- 01, Numbers: physical page = block x N + offset
abbrev pub block_of : Lent → ℕ → ℕ
block_of s p = p / s.head.pages

abbrev pub offset_of : Lent → ℕ → ℕ
offset_of s p = p % s.head.pages
