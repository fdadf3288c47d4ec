-- Makes: the outcome of one that is accepted and of one that is refused; and what an accepted one leaves.
use Rattle.std.specs.Prelude.{ℕ, true, ◌≡◌, length}
use Rattle.std.proofs.Common.{ap, ◌∙◌}
use mathlib.Core.List.{List, []}
use Rattle.std.proofs.Math.Logic.{by_cases}
use Rattle.std.proofs.Math.Decide.{ℕ_discrete}
use borrow.Author.Tests.{ne_eqb}
use Rattle.rules.specs.Lent.{Lent, lent}
use Rattle.rules.specs.Shape.{shaped}
use Rattle.rules.specs.Sound.{sound}
use Rattle.rules.specs.Device.{words_of}
use Rattle.rules.specs.Answers.{Outcome}
use Rattle.rules.specs.Makes.{Make, make}
use Rattle.laws.specs.Sound.{Storable}
use Rattle.laws.specs.States.{storable-shaped, storable-sound}

module _ (a : Make) (extent_words block_words spare : List ℕ) where
  pub make-accepts : a.refusal (length extent_words) (length block_words) (length spare) ≡ 0 → (t : Lent) → t ≡ words_of a.device
      → ◌≡◌ {A = Outcome Lent} (record { refusal = 0; counts = []; after = t; out = [] }) (make a extent_words block_words spare)
  unfolding make
  make-accepts z t e = rw z (λ i. record { refusal = 0; counts = []; after = e i; out = [] })

  pub make-refuses : (r : ℕ) → (r ≡ 0 → ⊥) → a.refusal (length extent_words) (length block_words) (length spare) ≡ r
      → ◌≡◌ {A = Outcome Lent} (record { refusal = r; counts = []; after = lent a.head extent_words block_words spare; out = [] }) (make a extent_words block_words spare)
  unfolding make
  make-refuses r n e = rw (e, ne_eqb r 0 n)

  -- accepted, it leaves the words of its device
  pub make-leaves : (make a extent_words block_words spare).refusal ≡ 0
      → (a.refusal (length extent_words) (length block_words) (length spare) ≡ 0) × ((make a extent_words block_words spare).after ≡ words_of a.device)
  unfolding make
  make-leaves e =
      let r = a.refusal (length extent_words) (length block_words) (length spare) in
      by_cases (ℕ_discrete r 0) (λ z. (z, rw z)) (λ n. absurd (n (rw (ne_eqb r 0 n) at e)))

  -- a sound state, where the device is storable
  pub make-sound : Storable a.device → (make a extent_words block_words spare).refusal ≡ 0
      → (shaped (make a extent_words block_words spare).after ≡ true) × (sound (make a extent_words block_words spare).after ≡ true)
  make-sound g e = let p = (make-leaves e).1 in (ap shaped p ∙ storable-shaped a.device g, ap sound p ∙ storable-sound a.device g)
