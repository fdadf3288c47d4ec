-- The test of a range and that of a buffer's room, read off the words.
use Rattle.std.specs.Prelude.{ℕ, ◌+◌, ◌*◌, ◌/◌, ◌≤◌, ◌<◌, Bool, false, not, ◌||◌, ◌≡◌, leb}
use Rattle.std.proofs.Common.{sym, ◌∙◌, arith, lt-ltb, le-ltb, ltb-false, le-leb}
use Rattle.std.proofs.Math.Path.{ap}
use Rattle.std.proofs.Math.Logic.{by_cases}
use Rattle.std.proofs.Math.Decide.{dec_lt}
use Rattle.std.proofs.lemmas.Bool.{eqb-false, lt-leb}
use Rattle.std.proofs.Math.Dec.{eqb, ltb}
use Rattle.rules.specs.Lent.{Lent}
use Rattle.rules.specs.Device.{device_of}
use Rattle.rules.specs.Calls.{outside}
use Rattle.laws.specs.Bools.{or_split}
use Rattle.laws.specs.States.{device-lines}

-- a range that is not outside
pub range-fits : (l n top : ℕ) → (eqb n 0 || ltb top (l + n)) ≡ false → (0 < n) × (l + n ≤ top)
range-fits l n top e =
    let t = or_split (eqb n 0) (ltb top (l + n)) e in
    let some = eqb-false n 0 t.0 in
    (omega arith, ltb-false top (l + n) t.1)

-- 3 words a piece
pub short-words : (room k : ℕ) → not (leb k (room / 3)) ≡ ltb room (3 * k)
short-words room k =
    by_cases (dec_lt room (3 * k))
    (λ e. ap not (lt-leb k (room / 3) (omega arith)) ∙ sym (lt-ltb room (3 * k) e))
    (λ e. ap not (le-leb k (room / 3) (omega arith)) ∙ sym (le-ltb room (3 * k) (omega arith)))

module _ (s : Lent) where
  -- what the code's range test says, of the state's device
  outside-words : (l n : ℕ) → outside l n (device_of s) ≡ (eqb n 0 || ltb s.head.logical (l + n))
  unfolding outside
  outside-words l n = ap (λ (m : ℕ). eqb n 0 || ltb m (l + n)) (device-lines s)

  pub is-outside : (l n : ℕ) (t : Bool) → not t ≡ (eqb n 0 || ltb s.head.logical (l + n)) → not t ≡ outside l n (device_of s)
  is-outside l n t e = e ∙ sym (outside-words l n)

  pub inside-words : (l n : ℕ) → outside l n (device_of s) ≡ false → (0 < n) × (l + n ≤ s.head.logical)
  inside-words l n e = range-fits l n s.head.logical (sym (outside-words l n) ∙ e)
