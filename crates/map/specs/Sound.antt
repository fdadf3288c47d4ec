-- Extents that keep rules 1 and 2, as a contract asks for them: for some N and L, which the code does not need. And what of it a search and a walk need.
use Rattle.std.specs.Prelude.{ℕ, zero, suc, ◌+◌, ◌-◌, ◌≤◌, ◌<◌, ◌≡◌, List}
use Rattle.std.proofs.Common.{arith}
use Rattle.rules.specs.Extents.{none, end, slot, slots_from}
use Rattle.rules.specs.declared.Extent.{Extent}
use Rattle.rules.specs.Lent.{Lent, in_use}
use Rattle.laws.specs.Rows.{Rows}
use Rattle.laws.specs.Sound.{SoundState}
use Rattle.laws.specs.Ranked.{Ranked, rows-ranked, rows-order}

pub record SoundMap (es : List Extent) : Type 0 where
  pub pages : ℕ
  pub logical : ℕ
  pub rows : Rows pages 0 none logical es

-- a sound state's are such
pub rows-sound : (s : Lent) → SoundState s → SoundMap (in_use s)
rows-sound s z = record { pages = s.head.pages; logical = s.head.logical; rows = z.rows }

-- an extent has pages, and their numbers are words
pub record Piece (x : Extent) : Type 0 where
  pub some : 0 < x.count
  pub small : x.physical + x.count ≤ none

-- u slots in rising order: each has pages, and ends before the next one begins
pub record Rising (ws : List ℕ) (u : ℕ) : Type 0 where
  pub pieces : (i : ℕ) → i < u → Piece (slot ws i)
  pub rise : (i : ℕ) → i + 1 < u → end (slot ws i) ≤ (slot ws (i + 1)).logical

module _ (ws : List ℕ) (u : ℕ) (r : Rising ws u) where
  behind_by : (d i : ℕ) → i + suc d < u → end (slot ws i) ≤ (slot ws (i + suc d)).logical
  behind_by zero i t = r.rise i t
  behind_by (suc d) i t =
      let next : i + suc d + 1 ≡ i + suc (suc d) = omega arith in
      let last : end (slot ws (i + suc d)) ≤ (slot ws (i + suc (suc d))).logical = rw (← next) (r.rise (i + suc d) (omega arith)) in
      omega (arith, behind_by d i (omega arith), last)

  -- a slot ends before each later one begins
  pub rising-order : (i j : ℕ) → i < j → j < u → end (slot ws i) ≤ (slot ws j).logical
  rising-order i j h t =
      let at : i + suc (j - suc i) ≡ j = omega arith in
      rw (← at) (behind_by (j - suc i) i (omega arith))

module _ (ws : List ℕ) (u : ℕ) (s : SoundMap (slots_from ws 0 u)) where
  ranked : Ranked s.pages s.logical ws u
  ranked = rows-ranked s.pages s.logical ws u s.rows

  pub sound-piece : (i : ℕ) → i < u → Piece (slot ws i)
  sound-piece i h = record { some = ranked.some i h; small = ranked.small i h }

  -- a slot ends before each later one begins
  pub sound-order : (i j : ℕ) → i < j → j < u → end (slot ws i) ≤ (slot ws j).logical
  sound-order i j h t = rows-order s.pages s.logical ws u 0 0 none s.rows i j i j h t (omega arith) (omega arith)

  -- sound extents are such slots
  pub sound-rising : Rising ws u
  sound-rising = record { pieces = sound-piece; rise = λ i t. sound-order i (i + 1) (omega arith) t }
