-- What a call of sound words comes to, by the verdict that it was told: t is what the first verdict handed on, of the words s.
use Rattle.std.specs.Prelude.{◌≡◌, true, Result, Ok, Err}
use Rattle.std.proofs.Common.{sym, ap, ◌∙◌}
use Rattle.rules.specs.Lent.{Lent}
use Rattle.rules.specs.Shape.{shaped}
use Rattle.rules.specs.Sound.{sound}
use Rattle.rules.specs.Device.{device_of}
use Rattle.rules.specs.Answers.{number}
use Rattle.rules.specs.Calls.{Call, refusal, refused, call}
use Rattle.rules.specs.declared.Refusal.{Refusal}
use Rattle.state.specs.Seen.{lent_of}
use Rattle.state.specs.declared.sound.Sound.{Sound}
use Rattle.refusals.specs.Refusals.{told}
use Rattle.refusals.specs.Accepts.{Ready, ready, refuses}

module _ (c : Call) (s : Lent) (t : Sound) (e : lent_of t ≡ s) where
  both : (shaped s ≡ true) × (sound s ≡ true)
  both = (ap shaped (sym e) ∙ t.shaped, ap sound (sym e) ∙ t.sound)

  module _ (w : Result (Unit {0}) Refusal) (g : told w ≡ refusal c (device_of (lent_of t))) where
    judged : told w ≡ refusal c (device_of s)
    judged = g ∙ ap (λ (x : Lent). refusal c (device_of x)) e

    pub held-refuses : (r : Refusal) → w ≡ Err r → refused (number r) c s ≡ call c s
    held-refuses r i = refuses c s both w judged r i

    pub held-ready : (a : Unit {0}) → w ≡ Ok a → Ready c s
    held-ready a i = ready c s both w judged a i
