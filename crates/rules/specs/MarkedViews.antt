-- Views and a refused fresh on the device of P12, each outcome whole: the statement beside the marked table for what is no case of `Call`. It holds by computing.
use Rattle.std.specs.Prelude.{ℕ, ◌*◌, ◌≡◌, List, [], ◌∷◌, replicate}
use Rattle.rules.specs.Extents.{none}
use Rattle.rules.specs.Blocks.{stride}
use Rattle.rules.specs.Lent.{Lent, lent}
use Rattle.rules.specs.Device.{Device, words_of}
use Rattle.rules.specs.Answers.{Outcome}
use Rattle.rules.specs.Request.{kept}
use Rattle.rules.specs.Calls.{fresh}
use Rattle.rules.specs.Views.{view, reporting, reading}

-- P12 after its two writes: page 0 is stale, page 1 holds the only line, block 2 is the reserve
abbrev twice : Device
twice = record { pages = 1; slots = 1; table = 1 ∷ []; fills = 1 ∷ 1 ∷ 0 ∷ []; spare = 0 ∷ 0 ∷ none ∷ []; reserve = 2; last = kept 2 }

abbrev whole : Lent
whole = words_of twice

-- the same with a label in the reserve, and without its block records
abbrev damaged : Lent
damaged = lent whole.head whole.extent_words whole.block_words (0 ∷ 0 ∷ 0 ∷ [])

abbrev shapeless : Lent
shapeless = lent whole.head whole.extent_words [] whole.spare

-- words and answer buffers that held something else
abbrev sevens : ℕ → List ℕ
sevens k = replicate k 7

abbrev leaving : ℕ → List ℕ → Lent → List ℕ → Outcome Lent
leaving r cs s out = record { refusal = r; counts = cs; after = s; out = out }

pub record MarkedViews : Type 0 where
  -- free, live, stale; one piece
  pub reports : view reporting whole ≡ leaving 0 (0 ∷ 1 ∷ 1 ∷ []) whole []
  pub reads : view (reading 0 1 (sevens 4)) whole ≡ leaving 0 (1 ∷ []) whole (0 ∷ 1 ∷ 1 ∷ 7 ∷ [])
  -- 1 before 2, 2 before the refusals of its own, and these in their order
  pub shape : view (reading 0 0 []) shapeless ≡ leaving 1 (0 ∷ []) shapeless []
  pub damages : view (reading 0 0 []) damaged ≡ leaving 2 (0 ∷ []) damaged []
  pub range : view (reading 0 0 []) whole ≡ leaving 3 (0 ∷ []) whole []
  pub short : view (reading 0 1 (sevens 2)) whole ≡ leaving 7 (0 ∷ []) whole (sevens 2)
  -- a view without refusals of its own
  pub unseen : view reporting damaged ≡ leaving 2 (0 ∷ 0 ∷ 0 ∷ []) damaged []
  -- L = 2 is refused 1: the four sizes as given and zero elsewhere, and the words as they were
  pub unmade : fresh 3 1 2 1 (sevens 3) (sevens (stride * 3)) (sevens 3)
      ≡ leaving 1 [] (lent (record { blocks = 3; pages = 1; logical = 2; slots = 1; used = 0; reserve = 0; last = kept 0 }) (sevens 3) (sevens (stride * 3)) (sevens 3)) []
