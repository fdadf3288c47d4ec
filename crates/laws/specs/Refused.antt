-- The refusals, one after the other: what a row of the paper's list gives, what 1 and 2 give before the refusals of a call's own, and what a call answers by it. Of the
-- refusals' names only this file knows all.
use Rattle.std.specs.Prelude.{ℕ, Bool, true, false, cond, ◌≡◌, refl, eqb}
use Rattle.std.proofs.Math.Bool.{not}
use Rattle.std.proofs.Common.{sym, ap, ◌∙◌, arith}
use borrow.Author.Tests.{not-false, ne_eqb}
use Rattle.rules.specs.Lent.{Lent}
use Rattle.rules.specs.Shape.{shaped}
use Rattle.rules.specs.Sound.{sound}
use Rattle.rules.specs.Device.{Device, device_of}
use Rattle.rules.specs.Answers.{number, refuse}
use Rattle.rules.specs.Calls.{Call, refused, tested, verdict, accepted_on, call}
use Rattle.rules.specs.declared.Refusal.{Refusal}

-- ---- the numbers: none is 0, and they tell the refusals apart

pub number_some : (r : Refusal) → number r ≡ 0 → ⊥
number_some Refusal.Shape e = omega arith
number_some Refusal.Damaged e = omega arith
number_some Refusal.Range e = omega arith
number_some Refusal.Applied e = omega arith
number_some Refusal.NoPages e = omega arith
number_some Refusal.NoNodes e = omega arith
number_some Refusal.OutShort e = omega arith
number_some Refusal.NothingStale e = omega arith

of_number : ℕ → Refusal
of_number k =
    cond (eqb k 1) Refusal.Shape (cond (eqb k 2) Refusal.Damaged (cond (eqb k 3) Refusal.Range (cond (eqb k 4) Refusal.Applied
    (cond (eqb k 5) Refusal.NoPages (cond (eqb k 6) Refusal.NoNodes (cond (eqb k 7) Refusal.OutShort Refusal.NothingStale))))))

back : (r : Refusal) → of_number (number r) ≡ r
unfolding of_number
back Refusal.Shape = refl
back Refusal.Damaged = refl
back Refusal.Range = refl
back Refusal.Applied = refl
back Refusal.NoPages = refl
back Refusal.NoNodes = refl
back Refusal.OutShort = refl
back Refusal.NothingStale = refl

pub number_one : (r t : Refusal) → number r ≡ number t → r ≡ t
number_one r t e = sym (back r) ∙ ap of_number e ∙ back t

-- ---- one row

pub refuse_here : (t : Bool) (r : Refusal) (later : ℕ) → t ≡ true → refuse t r later ≡ number r
unfolding refuse
refuse_here t r later e = rw e

pub refuse_later : (t : Bool) (r : Refusal) (later : ℕ) → t ≡ false → refuse t r later ≡ later
unfolding refuse
refuse_later t r later e = rw e

pub refuse_pass : (t : Bool) (r : Refusal) (later : ℕ) → t ≡ false → later ≡ 0 → refuse t r later ≡ 0
refuse_pass t r later e z = refuse_later t r later e ∙ z

-- where nothing is refused, the test fails and the later tests refuse nothing
pub refuse_none : (t : Bool) (r : Refusal) (later : ℕ) → refuse t r later ≡ 0 → (t ≡ false) × (later ≡ 0)
unfolding refuse
refuse_none false r later e = (refl, e)
refuse_none true r later e = absurd (number_some r e)

-- ---- 1 and 2, and then the refusals of a call's own

module _ (own : Device → ℕ) (s : Lent) where
  pub tested-shape : shaped s ≡ false → tested own s ≡ number Refusal.Shape
  unfolding tested
  tested-shape e = refuse_here _ Refusal.Shape _ (ap not e)

  pub tested-damaged : shaped s ≡ true → sound s ≡ false → tested own s ≡ number Refusal.Damaged
  unfolding tested
  tested-damaged e f = refuse_later _ Refusal.Shape _ (ap not e) ∙ refuse_here _ Refusal.Damaged _ (ap not f)

  pub tested_plain : shaped s ≡ true → sound s ≡ true → tested own s ≡ own (device_of s)
  unfolding tested
  tested_plain e f = refuse_later _ Refusal.Shape _ (ap not e) ∙ refuse_later _ Refusal.Damaged _ (ap not f)

  pub tested-none : tested own s ≡ 0 → (shaped s ≡ true) × (sound s ≡ true) × (own (device_of s) ≡ 0)
  unfolding tested
  tested-none e =
      let a = refuse_none (not (shaped s)) Refusal.Shape _ e in
      let b = refuse_none (not (sound s)) Refusal.Damaged _ a.1 in
      (not-false (shaped s) a.0, not-false (sound s) b.0, b.1)

-- ---- the answer

module _ (c : Call) (s : Lent) where
  pub call-refused : (r : Refusal) → verdict c s ≡ number r → refused (number r) c s ≡ call c s
  unfolding call
  call-refused r e = rw (e, ne_eqb (number r) 0 (number_some r))

  pub call-accepted : verdict c s ≡ 0 → accepted_on c s ≡ call c s
  unfolding call
  call-accepted e = rw e
