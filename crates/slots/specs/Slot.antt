-- One slot in use, behind one that ended before logical page lo and physical page q: what rules 1 and 2 ask of it, but for where it ends.
use Rattle.std.specs.Prelude.{ℕ, ◌+◌, ◌%◌, ◌≤◌, ◌<◌, ◌≡◌, List, length}
use Rattle.std.proofs.Common.{arith}
use Rattle.rules.specs.Extents.{extent}
use Rattle.laws.specs.Rows.{Row}
use Rattle.windows.specs.Window.{Labelled}

-- no logical page that a device has reaches half of the words
abbrev pub half_words : ℕ
half_words = 2147483648

pub record SlotLies (n lo q l p c : ℕ) : Type 0 where
  pub above : lo ≤ l
  pub low : l < half_words
  pub some : 0 < c
  pub inside : p % n + c ≤ n
  pub apart : l ≡ lo → p ≡ q → p % n ≡ 0

-- with its pages there, a row
pub lies_row : {n lo q l p c : ℕ} {spare : List ℕ} → length spare ≤ 262144 → SlotLies n lo q l p c → Labelled spare l p c → Row n lo q (extent l p c)
lies_row h s w = record { above = s.above; some = s.some; inside = s.inside; small = omega (arith, w.ends); apart = s.apart }

pub row_lies : {n lo q l p c : ℕ} → Row n lo q (extent l p c) → l < half_words → SlotLies n lo q l p c
row_lies r h = record { above = r.above; low = h; some = r.some; inside = r.inside; apart = r.apart }
