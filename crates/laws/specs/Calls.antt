-- A call on the words of a storable device is the call on the plain device, its device as words; and what a call does with words that are of no such device.
use Rattle.std.specs.Prelude.{ℕ, false, ◌≡◌, eqb}
use Rattle.std.proofs.Math.Path.{refl, ap}
use Rattle.rules.specs.Lent.{Lent}
use Rattle.rules.specs.Shape.{shaped}
use Rattle.rules.specs.Device.{Device, words_of}
use Rattle.rules.specs.Answers.{number, refuse}
use Rattle.rules.specs.Calls.{Call, refusal, counts, leaves, lists, buffer, over, refused, accepted, plain_call, encoded, tested, verdict, accepted_on, call}
use Rattle.rules.specs.declared.Refusal.{Refusal}
use Rattle.laws.specs.Bools.{cases}
use Rattle.laws.specs.Sound.{Storable}
use Rattle.laws.specs.States.{words-device, storable-shaped, storable-sound}

module _ (c : Call) (d : Device) (g : Storable d) where
  pub verdict-words : verdict c (words_of d) ≡ refusal c d
  unfolding tested refuse
  verdict-words = rw (storable-shaped d g, storable-sound d g) (ap (refusal c) (words-device d g))

  accepted-words : accepted_on c (words_of d) ≡ encoded (accepted c d)
  unfolding accepted_on accepted encoded
  accepted-words =
      ap (λ (x : Device). record { refusal = 0; counts = counts c x; after = words_of (leaves c x); out = over (lists c x) (buffer c) }) (words-device d g)

  refused-words : (r : ℕ) → refused r c (words_of d) ≡ encoded (refused r c d)
  unfolding refused encoded
  refused-words r = refl

  pub call_plain : call c (words_of d) ≡ encoded (plain_call c d)
  unfolding call plain_call
  call_plain =
      rw verdict-words (cases (eqb (refusal c d) 0)
      (λ e. rw e accepted-words)
      (λ e. rw e (refused-words (refusal c d))))

-- 01, Refusals, 1 and 2
pub call_shape : (c : Call) (s : Lent) → shaped s ≡ false → call c s ≡ refused (number Refusal.Shape) c s
unfolding call tested refuse
call_shape c s e = rw e
