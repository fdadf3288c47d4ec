-- Demand 1. Any request on any lent state gets an answer. Bad shapes, damaged state, bad ranges, a request already applied, and want of pages, extent
-- slots, answer room or stale pages are refused by number, exactly when the rules say, and a refusal changes nothing lent.
-- This is the statement; `demand_1` (Proved) proves it.
use Rattle.std.specs.Prelude.{ℕ, ◌+◌, ◌-◌, ◌*◌, Bool, not, cond, ◌&&◌, ◌||◌, ◌≡◌, List, [], ◌∷◌, map, eqb, ltb, leb, length, get_or, drop, replicate}
use Rattle.rules.specs.Extents.{none}
use Rattle.rules.specs.Blocks.{stride}
use Rattle.rules.specs.Lent.{Lent, lent}
use Rattle.rules.specs.Shape.{sizes, lengths, shaped}
use Rattle.rules.specs.Sound.{sound}
use Rattle.rules.specs.Device.{free, live, stale, extents, device_of}
use Rattle.rules.specs.Answers.{Outcome, number}
use Rattle.rules.specs.Calls.{Call, leaves, lists, buffer, accepted_on, call, fresh}
use Rattle.rules.specs.Request.{kept}
use Rattle.rules.specs.declared.Refusal.{Refusal}
use Rattle.demands.specs.Requests.{is_write, number_of, start_of, count_of}

-- ---- 01, Refusals: the table, from whose row 6 document 02 strikes reclaim (T-12)

abbrev pub refusals : List Refusal
refusals =
    Refusal.Shape ∷ Refusal.Damaged ∷ Refusal.Range ∷ Refusal.Applied ∷ Refusal.NoPages ∷ Refusal.NoNodes ∷ Refusal.OutShort ∷ Refusal.NothingStale ∷ []

-- its column "calls": the refusals of a call, in the order in which they are checked; reclaim checks 8 directly after 2
abbrev pub order : Call → List Refusal
order (Call.write k l n out) = Refusal.Shape ∷ Refusal.Damaged ∷ Refusal.Range ∷ Refusal.Applied ∷ Refusal.NoPages ∷ Refusal.NoNodes ∷ Refusal.OutShort ∷ []
order (Call.trim k l n) = Refusal.Shape ∷ Refusal.Damaged ∷ Refusal.Range ∷ Refusal.Applied ∷ Refusal.NoNodes ∷ []
order (Call.read l n out) = Refusal.Shape ∷ Refusal.Damaged ∷ Refusal.Range ∷ Refusal.OutShort ∷ []
order (Call.reclaim out) = Refusal.Shape ∷ Refusal.Damaged ∷ Refusal.NothingStale ∷ Refusal.OutShort ∷ []
order Call.report = Refusal.Shape ∷ Refusal.Damaged ∷ []

-- its column "given when", of a call c on a lent state s
abbrev pub given : Call → Lent → Refusal → Bool
-- a size or a state buffer length breaks the numbers
given c s Refusal.Shape = not (shaped s)
-- the state isn't sound
given c s Refusal.Damaged = not (sound s)
-- n = 0, l + n > L as whole numbers, or a write with n > N
given c s Refusal.Range = eqb (count_of c) 0 || ltb s.head.logical (start_of c + count_of c) || (is_write c && ltb s.head.pages (count_of c))
-- number not above the last number
given c s Refusal.Applied = leb (number_of c) s.head.last.number
-- n > free
given c s Refusal.NoPages = ltb (free (device_of s)) (count_of c)
-- the map afterwards, joined, has more than M extents
given c s Refusal.NoNodes = ltb s.head.slots (length (extents (leaves c (device_of s))))
-- answer buffer shorter than the answer: 3 words a piece, or 1 a copied page
given c s Refusal.OutShort = ltb (length (buffer c)) (length (lists c (device_of s)))
-- no page is stale
given c s Refusal.NothingStale = eqb (stale (device_of s)) 0

-- the first that applies is given, by its number, and none otherwise: 0
unfoldable pub first_given : List Refusal → (Refusal → Bool) → ℕ
first_given [] applies = 0
first_given (r ∷ rs) applies = cond (applies r) (number r) (first_given rs applies)

-- ---- a call on a lent state

-- a refusal: zero for every count; the head as given, and every word of the state and of the answer buffer
pub record Untouched (c : Call) (s : Lent) (o : Outcome Lent) : Type 0 where
  pub counts : (i : ℕ) → get_or o.counts i 0 ≡ 0
  pub after : o.after ≡ s
  pub out : o.out ≡ buffer c

-- outcome o answers call c on state s
pub record Answers (c : Call) (s : Lent) (o : Outcome Lent) : Type 0 where
  pub refusal : o.refusal ≡ first_given (order c) (given c s)
  pub refused : (o.refusal ≡ 0 → ⊥) → Untouched c s o
  -- accepted: counts, state and answer are those of the plain device of s
  pub accepted : o.refusal ≡ 0 → o ≡ accepted_on c s
  -- an answer overwrites only the words it needs
  pub rest : o.refusal ≡ 0 → drop (length (lists c (device_of s))) o.out ≡ drop (length (lists c (device_of s))) (buffer c)

-- ---- fresh, which is given B, N, L and M alone, and words that hold anything

pub record FreshAnswers (b n l m : ℕ) (extent_words block_words spare : List ℕ) (o : Outcome Lent) : Type 0 where
  pub refusal : o.refusal ≡ cond (sizes b n l m && lengths b n m (length extent_words) (length block_words) (length spare)) 0 1
  -- refused, its head holds the four sizes as given and zero elsewhere, and no word changes
  pub refused : (o.refusal ≡ 0 → ⊥)
      → o.after ≡ lent (record { blocks = b; pages = n; logical = l; slots = m; used = 0; reserve = 0; last = kept 0 }) extent_words block_words spare
  -- no extents, all slots zero, all fills and valid counts 0, all spare erased, reserve B-1, last number 0
  pub accepted : o.refusal ≡ 0
      → o.after ≡ lent (record { blocks = b; pages = n; logical = l; slots = m; used = 0; reserve = b - 1; last = kept 0 })
      (replicate (3 * m) 0) (replicate (stride * b) 0) (replicate (b * n) none)
  -- it counts nothing and lists nothing
  pub counts : o.counts ≡ []
  pub out : o.out ≡ []

pub record Demand1 : Type 0 where
  -- the table's column "no."
  pub numbers : map number refusals ≡ 1 ∷ 2 ∷ 3 ∷ 4 ∷ 5 ∷ 6 ∷ 7 ∷ 8 ∷ []
  pub calls : (c : Call) (s : Lent) → Answers c s (call c s)
  -- report gives free, live and stale
  pub reports : (s : Lent) → (call Call.report s).refusal ≡ 0
      → (call Call.report s).counts ≡ free (device_of s) ∷ live (device_of s) ∷ stale (device_of s) ∷ []
  pub freshes : (b n l m : ℕ) (extent_words block_words spare : List ℕ)
      → FreshAnswers b n l m extent_words block_words spare (fresh b n l m extent_words block_words spare)
