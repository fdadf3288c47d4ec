-- A write's or trim's request number k: when it has been applied, and the device that an accepted one leaves.
use Rattle.std.specs.Prelude.{ℕ, Bool, List, leb, eqb, replicate}
use Rattle.std.proofs.lemmas.List.Edits.{sets}
use Rattle.rules.specs.Extents.{none}
use Rattle.rules.specs.Device.{Device}
use Rattle.rules.specs.Placement.{puts}
use Rattle.rules.specs.Answers.{number, refuse}
use Rattle.rules.specs.declared.Last.{Last}
use Rattle.rules.specs.declared.Refusal.{Refusal}

-- 01, Refusals, 4: number not above the last number
unfoldable pub applied : ℕ → Device → Bool
applied k d = leb k d.last.number

-- the test of a number: 4 where it applies, what the later tests give where it does not
unfoldable pub judged : ℕ → Device → ℕ → ℕ
judged k d later = refuse (applied k d) Refusal.Applied later

-- the refusals that a write or trim in range gets for a number that is used up: one that is not above an accepted one
unfoldable pub used_up : ℕ → Bool
used_up r = eqb r (number Refusal.Applied)

-- an accepted write or trim sets the last number to its own: what is known of it afterwards
abbrev pub kept : ℕ → Last
kept k = record { number = k }

-- the device that an accepted one leaves, its lines given
unfoldable pub with_table : List ℕ → ℕ → Device → Device
with_table table k d = record {
  pages = d.pages;
  slots = d.slots;
  table = table;
  fills = d.fills;
  spare = d.spare;
  reserve = d.reserve;
  last = kept k;
}

unfoldable pub numbered : ℕ → Device → Device
numbered k d = with_table d.table k d

-- 01, write
unfoldable pub written : ℕ → ℕ → ℕ → Device → Device
written k l n d = numbered k (puts l n d)

-- 01, trim: the range becomes holes; spare and fill stay
unfoldable pub trimmed : ℕ → ℕ → ℕ → Device → Device
trimmed k l n d = with_table (sets d.table l (replicate n none)) k d
