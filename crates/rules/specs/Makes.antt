-- A make: what begins a history. It is refused, or it leaves the words of a device, whatever the lent words held. Fresh (Calls) is one; a call of a later
-- request that makes a device is another.
use Rattle.std.specs.Prelude.{ℕ, cond, List, [], eqb, length}
use Rattle.rules.specs.Lent.{Lent, lent}
use Rattle.rules.specs.Device.{Device, words_of}
use Rattle.rules.specs.Answers.{Outcome}
use Rattle.rules.specs.declared.Head.{Head}

pub record Make : Type 0 where
  -- the first refusal that applies, 0 where none does: of the lengths of the extent words, the block words and the spare words, and of nothing else that is lent
  pub refusal : ℕ → ℕ → ℕ → ℕ
  -- the device that it leaves
  pub device : Device
  -- the head of a refusal
  pub head : Head

-- accepted: the words of its device; refused: its number, and the lent words as they were, under its head. It counts nothing and lists nothing
unfoldable pub make : Make → List ℕ → List ℕ → List ℕ → Outcome Lent
make a extent_words block_words spare =
    let r = a.refusal (length extent_words) (length block_words) (length spare) in
    cond (eqb r 0)
    (record { refusal = 0; counts = []; after = words_of a.device; out = [] })
    (record { refusal = r; counts = []; after = lent a.head extent_words block_words spare; out = [] })
