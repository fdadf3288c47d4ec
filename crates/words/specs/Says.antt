-- A test that passes exactly where a fact holds.
use Rattle.std.specs.Prelude.{ℕ, ◌<◌, Bool, true, false, not, ◌≡◌}
use Rattle.std.proofs.Common.{true≢false, sym, ◌∙◌}
use Rattle.std.proofs.lemmas.Bool.{false≢true, not-true, not-false}
use Rattle.rules.specs.Counting.{all}
use Rattle.laws.specs.Bools.{same_test, never, surely}
use Rattle.laws.specs.Sums.{all-each, each_all}

pub record Says (r : Bool) (P : Type 0) : Type 0 where
  pub yes : r ≡ true → P
  pub no : r ≡ false → P → ⊥

pub says-yes : {P : Type 0} → P → Says true P
says-yes p = record { yes = λ e. p; no = λ e. absurd (true≢false e) }

pub says-no : {P : Type 0} → (P → ⊥) → Says false P
says-no f = record { yes = λ e. absurd (false≢true e); no = λ e. f }

-- the same test of another fact
pub says_for : {r : Bool} {P Q : Type 0} → Says r P → (P → Q) → (Q → P) → Says r Q
says_for s f g = record { yes = λ e. f (s.yes e); no = λ e q. s.no e (g q) }

-- a test of every number below n
pub says_all : (r : Bool) (n : ℕ) (t : ℕ → Bool) (P : ℕ → Type 0) → r ≡ all n t
    → ((k : ℕ) → k < n → t k ≡ true → P k) → ((k : ℕ) → k < n → P k → t k ≡ true) → Says r ((k : ℕ) → k < n → P k)
says_all r n t P e f g = record {
  yes = λ h k s. f k s (all-each n t (sym e ∙ h) k s);
  no = λ h p. true≢false (sym (each_all n t (λ k s. g k s (p k s))) ∙ sym e ∙ h);
}

-- ---- a test t that passes exactly where P holds: what the code finds is what t says

pub is-no : {P : Type 0} (t : Bool) → (t ≡ true → P) → (P → ⊥) → false ≡ t
is-no t f h = sym (never t (λ e. h (f e)))

pub is_said : {P : Type 0} (r t : Bool) → (t ≡ true → P) → (P → t ≡ true) → Says r P → r ≡ t
is_said r t f g s = same_test r t (λ e. g (s.yes e)) (λ e. surely r (λ d. s.no d (f e)))

-- ---- what a branch on `!f(..)` says, where f says whether P holds

pub told-no : {P : Type 0} (r : Bool) → Says r P → not r ≡ true → P → ⊥
told-no r s e = s.no (not-true r e)

pub told-yes : {P : Type 0} (r : Bool) → Says r P → not r ≡ false → P
told-yes r s e = s.yes (not-false r e)
