-- A view: a call that shows something of a state and leaves it as it was. Of the five calls report and read are views, and here they stand as such; a call
-- of a later request that changes nothing is one more.
use Rattle.std.specs.Prelude.{ℕ, cond, List, [], ◌∷◌, eqb, length, replicate}
use Rattle.rules.specs.Extents.{flat}
use Rattle.rules.specs.Lent.{Lent}
use Rattle.rules.specs.Device.{Device, free, live, stale, device_of}
use Rattle.rules.specs.Read.{found}
use Rattle.rules.specs.Answers.{Outcome}
use Rattle.rules.specs.Calls.{read_refusal, over, tested}

pub record View : Type 0 where
  -- its own refusals, behind 1 and 2: the first that applies, 0 where none does
  pub refusal : Device → ℕ
  pub counts : Device → List ℕ
  -- the words of the answer
  pub lists : Device → List ℕ
  -- how many counts it has: a refusal gives zero for every one
  pub zeros : ℕ
  -- the answer buffer that it is given
  pub buffer : List ℕ

-- 1, then 2, then its own refusals. Accepted: its counts, and its answer over the buffer; refused: its number, zero for every count, the buffer as given; and
-- the state as it was, either way
unfoldable pub view : View → Lent → Outcome Lent
view v s =
    let d = device_of s in
    let r = tested v.refusal s in
    cond (eqb r 0)
    (record { refusal = 0; counts = v.counts d; after = s; out = over (v.lists d) v.buffer })
    (record { refusal = r; counts = replicate v.zeros 0; after = s; out = v.buffer })

-- 01: report gives the three
abbrev pub reporting : View
reporting = record { refusal = λ d. 0; counts = λ d. free d ∷ live d ∷ stale d ∷ []; lists = λ d. []; zeros = 3; buffer = [] }

-- 01, read (l, n): pieces
abbrev pub reading : ℕ → ℕ → List ℕ → View
reading l n out = record {
  refusal = read_refusal l n out;
  counts = λ d. length (found l n d) ∷ [];
  lists = λ d. flat (found l n d);
  zeros = 1;
  buffer = out;
}
