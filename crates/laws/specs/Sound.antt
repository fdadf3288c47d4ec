-- What a shape and a sound state say, as facts about the lent words: the tests of `Shape` and `SoundDevice` pass exactly where these hold.
use Rattle.std.specs.Prelude.{ℕ, ◌+◌, ◌-◌, ◌*◌, ◌/◌, ◌%◌, ◌≤◌, ◌<◌, cond, ◌≡◌, List, eqb, length, get_or}
use Rattle.rules.specs.Counting.{sum}
use Rattle.rules.specs.Extents.{none, slot}
use Rattle.rules.specs.Blocks.{stride}
use Rattle.rules.specs.Lent.{Lent, slot_of, in_use, fill_of, valid_of, label_of}
use Rattle.rules.specs.Device.{Device, blocks, lines, extents}
use Rattle.laws.specs.Rows.{Rows}
use Rattle.laws.specs.Device.{SoundDevice}

-- 01, Numbers
pub record Sizes (b n l m : ℕ) : Type 0 where
  pub b-low : 3 ≤ b
  pub b-high : b ≤ 1024
  pub n-low : 1 ≤ n
  pub n-high : n ≤ 256
  pub l_low : 1 ≤ l
  pub l_high : l ≤ (b - 2) * n
  pub m-low : 1 ≤ m
  pub m-high : m ≤ 8192

pub record Shaped (s : Lent) : Type 0 where
  pub sizes : Sizes s.head.blocks s.head.pages s.head.logical s.head.slots
  pub extents : length s.extent_words ≡ 3 * s.head.slots
  pub blocks : length s.block_words ≡ stride * s.head.blocks
  pub spare : length s.spare ≡ s.head.blocks * s.head.pages

-- the pages of slot i that lie in block b: all of them or none, as no extent crosses a block
unfoldable pub pages_in : List ℕ → ℕ → ℕ → ℕ → ℕ
pages_in ws n b i = cond (eqb ((slot ws i).physical / n) b) (slot ws i).count 0

-- rules 1 to 6
pub record SoundState (s : Lent) : Type 0 where
  pub few : s.head.used ≤ s.head.slots
  -- rules 1 and 2
  pub rows : Rows s.head.pages 0 none s.head.logical (in_use s)
  pub zeros : (k : ℕ) → 3 * s.head.used ≤ k → k < length s.extent_words → get_or s.extent_words k 0 ≡ 0
  -- rule 3
  pub full : (b : ℕ) → b < s.head.blocks → fill_of s b ≤ s.head.pages
  pub labels : (b o : ℕ) → b < s.head.blocks → o < fill_of s b → label_of s (b * s.head.pages + o) < s.head.logical
  pub blank : (b o : ℕ) → b < s.head.blocks → fill_of s b ≤ o → o < s.head.pages → label_of s (b * s.head.pages + o) ≡ none
  -- rule 4: an extent's block is there, its pages lie below the fill, and each carries its label
  pub inside : (i : ℕ) → i < s.head.used → (slot_of s i).physical / s.head.pages < s.head.blocks
  pub below : (i : ℕ) → i < s.head.used → (slot_of s i).physical % s.head.pages + (slot_of s i).count ≤ fill_of s ((slot_of s i).physical / s.head.pages)
  pub labelled : (i k : ℕ) → i < s.head.used → k < (slot_of s i).count → label_of s ((slot_of s i).physical + k) ≡ (slot_of s i).logical + k
  -- rule 5
  pub counts : (b : ℕ) → b < s.head.blocks → valid_of s b ≡ sum s.head.used (pages_in s.extent_words s.head.pages b)
  -- rule 6
  pub kept : s.head.reserve < s.head.blocks
  pub empty : fill_of s s.head.reserve ≡ 0

-- a plain device whose words are a sound state
pub record Storable (d : Device) : Type 0 where
  pub sizes : Sizes (blocks d) d.pages (lines d) d.slots
  pub sound : SoundDevice d
  pub few : length (extents d) ≤ d.slots
