-- How a call's answer follows from its verdict: the first refusal that applies, in the paper's order.
use Rattle.std.specs.Prelude.{ℕ, Bool, true, false, ◌≡◌, refl, List, ltb, leb, replicate, Result, Ok, Err, IsErrAnd}
use Rattle.std.proofs.Math.Bool.{not}
use Rattle.std.proofs.Math.Path.{sym, ap}
use Rattle.std.proofs.Common.{◌∙◌}
use borrow.Author.Tests.{not-true, not-false, leb-true, leb-false, lt-ltb, le-ltb}
use Rattle.laws.specs.Bools.{cases}
use Rattle.laws.specs.Refused.{number_some, refuse_here, refuse_later, tested-shape, tested-damaged, tested_plain, call-refused}
use Rattle.laws.specs.Views.{view-refuses}
use Rattle.rules.specs.Lent.{Lent}
use Rattle.rules.specs.Shape.{shaped}
use Rattle.rules.specs.Sound.{sound}
use Rattle.rules.specs.Device.{Device}
use Rattle.rules.specs.Answers.{Outcome, number, refuse}
use Rattle.rules.specs.Calls.{Call, refusal, refused, tested, call}
use Rattle.rules.specs.Views.{View, view}
use Rattle.rules.specs.declared.Refusal.{Refusal}

-- what a verdict says: the refusal's number, or 0
abbrev pub told : {A : Type 0} → Result A Refusal → ℕ
told (Ok a) = 0
told (Err r) = number r

-- 1 and 2
unfoldable pub lent_refusal : Lent → ℕ
lent_refusal s = tested (λ d. 0) s

-- a request whose answer buffer has a room of so many words: a verdict looks at nothing else of it
abbrev pub roomed : ℕ → List ℕ
roomed k = replicate k 0

-- what a branch on `!f(..)` says of the test that f's contract names
pub branch_no : {r t : Bool} → r ≡ t → not r ≡ true → t ≡ false
branch_no {r} e q = sym e ∙ not-true r q

pub branch_yes : {r t : Bool} → r ≡ t → not r ≡ false → t ≡ true
branch_yes {r} e q = sym e ∙ not-false r q

not-not : (t : Bool) → not (not t) ≡ t
not-not true = refl
not-not false = refl

pub over-not : (a b : ℕ) → not (leb a b) ≡ ltb b a
over-not a b =
    cases (leb a b)
    (λ e. rw e (sym (le-ltb b a (leb-true a b e))))
    (λ e. rw e (sym (lt-ltb b a (leb-false a b e))))

pub below-not : (a b : ℕ) → not (ltb a b) ≡ leb b a
below-not a b = ap not (sym (over-not b a)) ∙ not-not (leb b a)

-- ---- a verdict on one test, before the later ones

module _ {A : Type 0} (v : Result A Refusal) (t : Bool) (r : Refusal) (e : told v ≡ refuse t r 0) where
  -- refused, whatever the later tests give
  pub stops : (q : Refusal) → v ≡ Err q → (later : ℕ) → number q ≡ refuse t r later
  stops q f later =
      let g : number q ≡ refuse t r 0 = sym (ap told f) ∙ e in
      cases t
      (λ h. g ∙ refuse_here t r 0 h ∙ sym (refuse_here t r later h))
      (λ h. absurd (number_some q (g ∙ refuse_later t r 0 h)))

  -- passed
  pub lets_pass : (a : A) → v ≡ Ok a → t ≡ false
  lets_pass a f = cases t (λ h. absurd (number_some r (sym (refuse_here t r 0 h) ∙ sym (sym (ap told f) ∙ e)))) (λ h. h)

  pub goes_on : (a : A) → v ≡ Ok a → (later : ℕ) → refuse t r later ≡ later
  goes_on a f later = refuse_later t r later (lets_pass a f)

-- a test with a verdict of its own
module _ {A : Type 0} (v : Result A Refusal) (passed : Bool) (r : Refusal) (e : told v ≡ refuse (not passed) r 0) where
  pub is-passed : (a : A) → v ≡ Ok a → passed ≡ true
  is-passed a f = not-false passed (lets_pass v (not passed) r e a f)

  pub is-not : (q : Refusal) → v ≡ Err q → (passed ≡ false) × (number q ≡ number r)
  is-not q f =
      let g : number q ≡ refuse (not passed) r 0 = sym (ap told f) ∙ e in
      cases (not passed)
      (λ h. (not-true passed h, g ∙ refuse_here (not passed) r 0 h))
      (λ h. absurd (number_some q (g ∙ refuse_later (not passed) r 0 h)))

-- what `?` hands on is the refusal that it was given
pub handed : {A : Type 0} (v : Result A Refusal) (r : Refusal) → IsErrAnd v (λ e. e ≡ r) → v ≡ Err r
handed (Ok a) r p = absurd p
handed (Err q) r p = ap Err p

pub handed_on : {A : Type 0} (v : Result A Refusal) (r : Refusal) → IsErrAnd v (λ e. e ≡ r) → told v ≡ number r
handed_on v r p = ap told (handed v r p)

-- ---- 1 and 2

module _ (s : Lent) where
  pub lent-shape : shaped s ≡ false → number Refusal.Shape ≡ lent_refusal s
  unfolding lent_refusal
  lent-shape e = sym (tested-shape _ s e)

  pub lent-damaged : shaped s ≡ true → sound s ≡ false → number Refusal.Damaged ≡ lent_refusal s
  unfolding lent_refusal
  lent-damaged e f = sym (tested-damaged _ s e f)

  pub lent-sound : shaped s ≡ true → sound s ≡ true → 0 ≡ lent_refusal s
  unfolding lent_refusal
  lent-sound e f = sym (tested_plain _ s e f)

-- ---- 1 and 2, told by a verdict

pub lent-some : (own : Device → ℕ) (s : Lent) (r : Refusal) → number r ≡ lent_refusal s → tested own s ≡ number r
lent-some own s r e =
    cases (shaped s)
    (λ f. cases (sound s)
    (λ g. absurd (number_some r (e ∙ sym (lent-sound s f g))))
    (λ g. tested-damaged own s f g ∙ lent-damaged s f g ∙ sym e))
    (λ f. tested-shape own s f ∙ lent-shape s f ∙ sym e)

-- a call that was told to refuse
pub lent-refuses : {A : Type 0} (c : Call) (s : Lent) (v : Result A Refusal) (r : Refusal) → told v ≡ lent_refusal s → v ≡ Err r → refused (number r) c s ≡ call c s
lent-refuses c s v r e f = call-refused c s r (lent-some (refusal c) s r (sym (ap told f) ∙ e))

-- a view that was told to refuse
pub view-told : {A : Type 0} (v : View) (s : Lent) (a : Result A Refusal) (r : Refusal) → told a ≡ lent_refusal s → a ≡ Err r
    → ◌≡◌ {A = Outcome Lent} (record { refusal = number r; counts = replicate v.zeros 0; after = s; out = v.buffer }) (view v s)
view-told v s a r e f = view-refuses v s (number r) (number_some r) (lent-some v.refusal s r (sym (ap told f) ∙ e))
