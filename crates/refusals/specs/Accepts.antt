-- From verdicts to answers, once for all calls: a call that both verdicts accept is ready; what it then leaves is what the rules give; and
-- what either verdict refuses is refused.
use Rattle.std.specs.Prelude.{ℕ, true, ◌≡◌, refl, List, length, Result, Ok, Err}
use Rattle.std.proofs.Common.{sym, ap, ◌∙◌}
use Rattle.std.proofs.lemmas.List.{length-replicate}
use Rattle.rules.specs.Lent.{Lent}
use Rattle.rules.specs.Shape.{shaped}
use Rattle.rules.specs.Sound.{sound}
use Rattle.rules.specs.Device.{Device, device_of, words_of}
use Rattle.rules.specs.Answers.{Outcome, number}
use Rattle.rules.specs.Calls.{Call, write_refusal, trim_refusal, read_refusal, reclaim_refusal, refusal, counts, leaves, lists, buffer, over, refused, verdict, accepted_on, call}
use Rattle.rules.specs.declared.Refusal.{Refusal}
use Rattle.laws.specs.Sound.{Shaped, SoundState}
use Rattle.laws.specs.Shapes.{shaped-true}
use Rattle.laws.specs.Sounds.{sound-state}
use Rattle.laws.specs.Kept.{Taken, refusal-taken}
use Rattle.laws.specs.Refused.{tested_plain, call-refused, call-accepted}
use Rattle.refusals.specs.Refusals.{told, roomed}

-- ---- a verdict looks at the answer buffer's length alone

pub read-room : (l n : ℕ) (out : List ℕ) (d : Device) → read_refusal l n (roomed (length out)) d ≡ refusal (Call.read l n out) d
unfolding refusal read_refusal
read-room l n out d = rw (length-replicate {A = ℕ} (length out) 0)

pub write-room : (k l n : ℕ) (out : List ℕ) (d : Device) → write_refusal k l n (roomed (length out)) d ≡ refusal (Call.write k l n out) d
unfolding refusal write_refusal
write-room k l n out d = rw (length-replicate {A = ℕ} (length out) 0)

pub trim-refusal : (k l n : ℕ) (d : Device) → trim_refusal k l n d ≡ refusal (Call.trim k l n) d
unfolding refusal
trim-refusal k l n d = refl

pub reclaim-room : (out : List ℕ) (d : Device) → reclaim_refusal (roomed (length out)) d ≡ refusal (Call.reclaim out) d
unfolding refusal reclaim_refusal
reclaim-room out d = rw (length-replicate {A = ℕ} (length out) 0)

-- ---- accepted

-- nothing refuses the call
pub record Ready (c : Call) (s : Lent) : Type 0 where
  pub shape : Shaped s
  pub sound : SoundState s
  pub passes : verdict c s ≡ 0
  pub taken : Taken c (device_of s)

module _ (c : Call) (s : Lent) (both : (shaped s ≡ true) × (sound s ≡ true)) where
  -- a state of the right shape, and a sound one
  pub ready-state : Shaped s × SoundState s
  ready-state = let h = shaped-true s both.0 in (h, sound-state s h both.1)

  plainly : verdict c s ≡ refusal c (device_of s)
  plainly = tested_plain (refusal c) s both.0 both.1

  -- the second verdict
  module _ {A : Type 0} (w : Result A Refusal) (g : told w ≡ refusal c (device_of s)) where
    pub ready : (a : A) → w ≡ Ok a → Ready c s
    ready a i =
        let z : refusal c (device_of s) ≡ 0 = sym (sym (ap told i) ∙ g) in
        record { shape = ready-state.0; sound = ready-state.1; passes = plainly ∙ z; taken = refusal-taken c (device_of s) z }

    pub refuses : (t : Refusal) → w ≡ Err t → refused (number t) c s ≡ call c s
    refuses t i = call-refused c s t (plainly ∙ sym (sym (ap told i) ∙ g))

-- what an accepted call leaves
pub accepts : (c : Call) (s : Lent) → Ready c s → (cs out : List ℕ) (t : Lent)
    → cs ≡ counts c (device_of s) → t ≡ words_of (leaves c (device_of s)) → out ≡ over (lists c (device_of s)) (buffer c)
    → ◌≡◌ {A = Outcome Lent} (record { refusal = 0; counts = cs; after = t; out = out }) (call c s)
unfolding accepted_on
accepts c s z cs out t e f g = (λ i. record { refusal = 0; counts = e i; after = f i; out = g i }) ∙ call-accepted c s z.passes
