-- The test of a number, by the head that was given. What it is, the rules say; here it is read off the words.
use Rattle.std.specs.Prelude.{ℕ, ◌≡◌, Bool, false, leb, Result, Ok, Err}
use Rattle.std.proofs.Common.{sym, ap, ◌∙◌}
use Rattle.rules.specs.Lent.{Lent}
use Rattle.rules.specs.Device.{device_of}
use Rattle.rules.specs.Request.{applied, judged}
use Rattle.rules.specs.Answers.{number, refuse}
use Rattle.rules.specs.declared.Head.{Head}
use Rattle.rules.specs.declared.Refusal.{Refusal}
use Rattle.laws.specs.Bools.{cases}
use Rattle.laws.specs.Refused.{number_some, refuse_here, refuse_later, refuse_none}
use Rattle.refusals.specs.Refusals.{told}

-- 4, or 0
unfoldable pub number_refusal : Head → ℕ → ℕ
number_refusal h k = refuse (leb k h.last.number) Refusal.Applied 0

-- ---- 3, then 4, as a write and a trim are asked: x is the rules' test of the range

module _ {A : Type 0} (s : Lent) (k : ℕ) (x : Bool) (v : Result A Refusal) (e : told v ≡ refuse x Refusal.Range (number_refusal s.head k)) where
  -- 4 wherever it stands in the order
  late : Bool
  late = leb k s.head.last.number

  pub asked-refuses : (r : Refusal) (later : ℕ) → v ≡ Err r → number r ≡ refuse x Refusal.Range (judged k (device_of s) later)
  unfolding number_refusal judged applied device_of late
  asked-refuses r later g =
      let f : number r ≡ refuse x Refusal.Range (refuse late Refusal.Applied 0) = sym (ap told g) ∙ e in
      cases x
      (λ t. f ∙ refuse_here x Refusal.Range _ t ∙ sym (refuse_here x Refusal.Range _ t))
      (λ t. let h = f ∙ refuse_later x Refusal.Range _ t in
      cases late
      (λ u. h ∙ refuse_here late Refusal.Applied 0 u ∙ sym (refuse_here late Refusal.Applied later u) ∙ sym (refuse_later x Refusal.Range _ t))
      (λ u. absurd (number_some r (h ∙ refuse_later late Refusal.Applied 0 u))))

  module _ (a : A) (g : v ≡ Ok a) where
    none : (x ≡ false) × (refuse late Refusal.Applied 0 ≡ 0)
    unfolding number_refusal late
    none = refuse_none x Refusal.Range (number_refusal s.head k) (sym (sym (ap told g) ∙ e))

    pub asked-passes : (later : ℕ) → refuse x Refusal.Range (judged k (device_of s) later) ≡ later
    unfolding judged applied device_of late
    asked-passes later = refuse_later x Refusal.Range _ none.0 ∙ refuse_later late Refusal.Applied later (refuse_none late Refusal.Applied 0 none.1).0

    pub asked-inside : x ≡ false
    asked-inside = none.0
