-- The six calls: first on a plain device, with their refusals from Range on; then on lent words, where Shape and Damaged come before.
use Rattle.std.specs.Prelude.{ℕ, ◌+◌, ◌-◌, ◌*◌, Bool, not, cond, ◌||◌, List, [], ◌∷◌, ◌++◌, eqb, ltb, length, drop, replicate}
use Rattle.rules.specs.Extents.{none, flat}
use Rattle.rules.specs.Lent.{Lent}
use Rattle.rules.specs.Shape.{shape, shaped}
use Rattle.rules.specs.Sound.{sound}
use Rattle.rules.specs.Device.{Device, lines, free, live, stale, extents, device_of, words_of}
use Rattle.rules.specs.Placement.{puts, pieces}
use Rattle.rules.specs.Reclaim.{victim, sources, reclaimed}
use Rattle.rules.specs.Read.{found}
use Rattle.rules.specs.Request.{judged, kept, written, trimmed}
use Rattle.rules.specs.Answers.{Outcome, refuse}
use Rattle.rules.specs.Makes.{Make, make}
use Rattle.rules.specs.declared.Head.{Head}
use Rattle.rules.specs.declared.Refusal.{Refusal}

-- a request other than fresh; where a call answers by a list it is given the answer buffer
pub data Call : Type 0 where
  -- number, l, n, answer buffer
  write : ℕ → ℕ → ℕ → List ℕ → Call
  -- number, l, n
  trim : ℕ → ℕ → ℕ → Call
  -- l, n, answer buffer
  read : ℕ → ℕ → List ℕ → Call
  -- answer buffer
  reclaim : List ℕ → Call
  report : Call

-- ---- refusals from Range on, in the paper's order: the first that applies, 0 where none does

-- 3: n = 0, or l + n > L as whole numbers
unfoldable pub outside : ℕ → ℕ → Device → Bool
outside l n d = eqb n 0 || ltb (lines d) (l + n)

-- 6: the map afterwards, joined, has more than M extents
unfoldable pub too_many : Device → Bool
too_many after = ltb after.slots (length (extents after))

-- 3 also for a write with n > N; 5: n > free; 7: 3 words a piece
unfoldable pub write_refusal : ℕ → ℕ → ℕ → List ℕ → Device → ℕ
write_refusal k l n out d =
    refuse (outside l n d || ltb d.pages n) Refusal.Range
    (judged k d
    (refuse (ltb (free d) n) Refusal.NoPages
    (refuse (too_many (puts l n d)) Refusal.NoNodes
    (refuse (ltb (length out) (3 * length (pieces l n d))) Refusal.OutShort 0))))

unfoldable pub trim_refusal : ℕ → ℕ → ℕ → Device → ℕ
trim_refusal k l n d =
    refuse (outside l n d) Refusal.Range
    (judged k d
    (refuse (too_many (trimmed k l n d)) Refusal.NoNodes 0))

unfoldable pub read_refusal : ℕ → ℕ → List ℕ → Device → ℕ
read_refusal l n out d =
    refuse (outside l n d) Refusal.Range
    (refuse (ltb (length out) (3 * length (found l n d))) Refusal.OutShort 0)

-- 8 stands directly after 2; 02, T-12: a reclaim is not tested for 6; 7: 1 word a copied page
unfoldable pub reclaim_refusal : List ℕ → Device → ℕ
reclaim_refusal out d =
    refuse (eqb (stale d) 0) Refusal.NothingStale
    (refuse (ltb (length out) (length (sources (victim d) d))) Refusal.OutShort 0)

unfoldable pub refusal : Call → Device → ℕ
refusal (write k l n out) d = write_refusal k l n out d
refusal (trim k l n) d = trim_refusal k l n d
refusal (read l n out) d = read_refusal l n out d
refusal (reclaim out) d = reclaim_refusal out d
refusal report d = 0

-- ---- what an accepted call counts, leaves and lists

-- write and read: pieces; reclaim: copied pages; report: free, live, stale
unfoldable pub counts : Call → Device → List ℕ
counts (write k l n out) d = length (pieces l n d) ∷ []
counts (trim k l n) d = []
counts (read l n out) d = length (found l n d) ∷ []
counts (reclaim out) d = length (sources (victim d) d) ∷ []
counts report d = free d ∷ live d ∷ stale d ∷ []

unfoldable pub leaves : Call → Device → Device
leaves (write k l n out) d = written k l n d
leaves (trim k l n) d = trimmed k l n d
leaves (read l n out) d = d
leaves (reclaim out) d = reclaimed d
leaves report d = d

-- the words of the answer
unfoldable pub lists : Call → Device → List ℕ
lists (write k l n out) d = flat (pieces l n d)
lists (trim k l n) d = []
lists (read l n out) d = flat (found l n d)
lists (reclaim out) d = sources (victim d) d
lists report d = []

abbrev pub buffer : Call → List ℕ
buffer (write k l n out) = out
buffer (trim k l n) = []
buffer (read l n out) = out
buffer (reclaim out) = out
buffer report = []

-- zero for every count of the call
abbrev pub zeros : Call → List ℕ
zeros (write k l n out) = 0 ∷ []
zeros (trim k l n) = []
zeros (read l n out) = 0 ∷ []
zeros (reclaim out) = 0 ∷ []
zeros report = 0 ∷ 0 ∷ 0 ∷ []

-- an answer overwrites only the words it needs
unfoldable pub over : List ℕ → List ℕ → List ℕ
over answer out = answer ++ drop (length answer) out

-- a refusal: its number, zero for every count, state and answer buffer as given
unfoldable pub refused : {State : Type 0} → ℕ → Call → State → Outcome State
refused r c s = record { refusal = r; counts = zeros c; after = s; out = buffer c }

-- ---- on a plain device

unfoldable pub accepted : Call → Device → Outcome Device
accepted c d = record { refusal = 0; counts = counts c d; after = leaves c d; out = over (lists c d) (buffer c) }

unfoldable pub plain_call : Call → Device → Outcome Device
plain_call c d = cond (eqb (refusal c d) 0) (accepted c d) (refused (refusal c d) c d)

-- ---- on lent words

-- an outcome on a plain device, its device as words
unfoldable pub encoded : Outcome Device → Outcome Lent
encoded o = record { refusal = o.refusal; counts = o.counts; after = words_of o.after; out = o.out }

-- 1, then 2, then what the plain device gives by a call's own refusals
unfoldable pub tested : (Device → ℕ) → Lent → ℕ
tested own s = refuse (not (shaped s)) Refusal.Shape (refuse (not (sound s)) Refusal.Damaged (own (device_of s)))

abbrev pub verdict : Call → Lent → ℕ
verdict c s = tested (refusal c) s

-- the outcome on the state's plain device, its device as words
unfoldable pub accepted_on : Call → Lent → Outcome Lent
accepted_on c s = let d = device_of s in record {
  refusal = 0;
  counts = counts c d;
  after = words_of (leaves c d);
  out = over (lists c d) (buffer c);
}

unfoldable pub call : Call → Lent → Outcome Lent
call c s = cond (eqb (verdict c s) 0) (accepted_on c s) (refused (verdict c s) c s)

-- ---- fresh

-- 01, fresh: no extents, all fills 0, all spare erased, reserve B-1, last number 0
unfoldable pub fresh_device : ℕ → ℕ → ℕ → ℕ → Device
fresh_device b n l m = record {
  pages = n;
  slots = m;
  table = replicate l none;
  fills = replicate b 0;
  spare = replicate (b * n) none;
  reserve = b - 1;
  last = kept 0;
}

-- 01, Refusals: a refused fresh's head holds the four sizes as given and zero elsewhere
abbrev pub sizes_only : ℕ → ℕ → ℕ → ℕ → Head
sizes_only b n l m = record { blocks = b; pages = n; logical = l; slots = m; used = 0; reserve = 0; last = kept 0 }

-- fresh is given B, N, L and M alone, tests only these and the lengths, and takes no heed of old contents
abbrev pub from_sizes : ℕ → ℕ → ℕ → ℕ → Make
from_sizes b n l m = record {
  refusal = λ of_extents of_blocks of_spare. refuse (not (shape (sizes_only b n l m) of_extents of_blocks of_spare)) Refusal.Shape 0;
  device = fresh_device b n l m;
  head = sizes_only b n l m;
}

unfoldable pub fresh : ℕ → ℕ → ℕ → ℕ → List ℕ → List ℕ → List ℕ → Outcome Lent
fresh b n l m extent_words block_words spare = make (from_sizes b n l m) extent_words block_words spare
