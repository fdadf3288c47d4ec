-- Flash, and what a logical page shows on it.
use Rattle.std.specs.Prelude.{ℕ, cond, List, eqb, get_or}
use Rattle.rules.specs.Extents.{none}
use Rattle.rules.specs.Device.{Device, at}

-- 01, the device and what the layer does: flash is a list of B x N entries, each erased or any whole number that stands for what the host programmed there
pub data Cell : Type 0 where
  erased : Cell
  value : ℕ → Cell

-- what a logical page shows: a hole, or an entry of the flash; nothing where its read is refused, with that number
pub data Seen : Type 0 where
  hole : Seen
  cell : Cell → Seen
  unread : ℕ → Seen

-- the entry that a mapping names, or a hole
unfoldable pub see : List Cell → ℕ → Seen
see f p = cond (eqb p none) hole (cell (get_or f p erased))

-- 01, the device and what the layer does: a logical page's contents are the entry that its mapping names, or a hole
unfoldable pub contents : Device → List Cell → ℕ → Seen
contents d f l = see f (at d l)
