-- What an answer says tells it apart: two answers that say the same are equal.
use Rattle.std.specs.Prelude.{ℕ, ◌≡◌, get_or, Result, Ok, Err}
use Rattle.std.proofs.Common.{sym, ap}
use Rattle.rules.specs.Answers.{Said, done, listed, counted}
use Rattle.rules.specs.declared.Head.{Head}
use Rattle.rules.specs.declared.Refusal.{Refusal}
use Rattle.rules.specs.declared.Listed.{Listed}
use Rattle.rules.specs.declared.Counted.{Counted}
use Rattle.laws.specs.Refused.{number_some, number_one}

at : ℕ → Said → ℕ
at i s = get_or s.counts i 0

module _ (h : Head) where
  pub done-one : (a b : Result Head Refusal) → done h a ≡ done h b → a ≡ b
  done-one (Ok x) (Ok y) e = ap (λ (s : Said). Ok s.head) e
  done-one (Ok x) (Err t) e = absurd (number_some t (sym (ap (λ (s : Said). s.refusal) e)))
  done-one (Err r) (Ok y) e = absurd (number_some r (ap (λ (s : Said). s.refusal) e))
  done-one (Err r) (Err t) e = ap Err (number_one r t (ap (λ (s : Said). s.refusal) e))

  pub listed-one : (a b : Result Listed Refusal) → listed h a ≡ listed h b → a ≡ b
  unfolding at
  listed-one (Ok x) (Ok y) e = λ i. Ok (record { count = ap (at 0) e i; head = (e i).head })
  listed-one (Ok x) (Err t) e = absurd (number_some t (sym (ap (λ (s : Said). s.refusal) e)))
  listed-one (Err r) (Ok y) e = absurd (number_some r (ap (λ (s : Said). s.refusal) e))
  listed-one (Err r) (Err t) e = ap Err (number_one r t (ap (λ (s : Said). s.refusal) e))

  pub counted-one : (a b : Result Counted Refusal) → counted h a ≡ counted h b → a ≡ b
  unfolding at
  counted-one (Ok x) (Ok y) e = λ i. Ok (record { free = ap (at 0) e i; live = ap (at 1) e i; stale = ap (at 2) e i })
  counted-one (Ok x) (Err t) e = absurd (number_some t (sym (ap (λ (s : Said). s.refusal) e)))
  counted-one (Err r) (Ok y) e = absurd (number_some r (ap (λ (s : Said). s.refusal) e))
  counted-one (Err r) (Err t) e = ap Err (number_one r t (ap (λ (s : Said). s.refusal) e))
