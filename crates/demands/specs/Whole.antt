-- 02, T-04. A write now goes into the lowest-numbered block outside the reserve that has room for all n pages; only if there is none is 01's order used: pages
-- are taken one at a time from the lowest-numbered block, not the reserve, whose fill is below N.
-- This is the statement; `kept_whole` (Proved) proves it of every accepted write.
use Rattle.std.specs.Prelude.{ℕ, suc, ◌+◌, ◌*◌, ◌≤◌, ◌<◌, ◌≡◌, [], ◌∷◌, get_or, take}
use Rattle.rules.specs.Lent.{Lent, fill_of}
use Rattle.rules.specs.Device.{at, device_of}
use Rattle.rules.specs.Answers.{Outcome}

-- block b lies outside the reserve and has room for n pages
abbrev pub HasRoom : ℕ → Lent → ℕ → Type 0
HasRoom n s b = (b < s.head.blocks) × (b ≡ s.head.reserve → ⊥) × (fill_of s b + n ≤ s.head.pages)

-- of the outcome o of an accepted write (l, n) on a state s
pub record KeptWhole (l n : ℕ) (s : Lent) (o : Outcome Lent) : Type 0 where
  -- b is the lowest-numbered block with room for all pages: the answer is one piece there, from its fill on,
  pub whole : (b : ℕ) → HasRoom n s b → ((c : ℕ) → c < b → HasRoom n s c → ⊥)
      → (o.counts ≡ 1 ∷ []) × (take 3 o.out ≡ l ∷ (b * s.head.pages + fill_of s b) ∷ n ∷ [])
  -- and there are at most two extents more
  pub few : (b : ℕ) → HasRoom n s b → o.after.head.used ≤ s.head.used + 2
  -- only if there is none: more than one piece,
  pub cut : ((b : ℕ) → HasRoom n s b → ⊥) → 2 ≤ get_or o.counts 0 0
  -- where block b has taken pages, every block before it but the reserve is full,
  pub filled : ((b : ℕ) → HasRoom n s b → ⊥) → (b c : ℕ) → c < b → b < s.head.blocks → (c ≡ s.head.reserve → ⊥) → fill_of s b < fill_of o.after b
      → fill_of o.after c ≡ s.head.pages
  -- and the pages of lines l, l + 1, .. rise: so they are the first free page outside the reserve, the next, and so on
  pub rising : ((b : ℕ) → HasRoom n s b → ⊥) → (i : ℕ) → suc i < n → at (device_of o.after) (l + i) < at (device_of o.after) (l + suc i)
