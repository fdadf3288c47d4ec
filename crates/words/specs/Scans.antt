-- What a scan of a part of a slice says of the slice's own words.
use Rattle.std.specs.Prelude.{ℕ, zero, suc, ◌+◌, ◌-◌, ◌≤◌, ◌<◌, Bool, true, ◌≡◌, refl, List, [], ◌∷◌, ltb, eqb, length, get_or, take, drop}
use Rattle.std.proofs.Common.{sym, ap, ◌∙◌, arith, ltb-true, lt-ltb, eqb-true, eq-eqb, length-take, get_or-take}
use Rattle.rules.specs.Counting.{all}
use Rattle.words.specs.Parts.{part_length, part_at}
use Rattle.words.specs.Says.{Says, says_all}

-- below the length the default does not count
pub word_at : (ws : List ℕ) (k x y : ℕ) → k < length ws → get_or ws k x ≡ get_or ws k y
word_at [] k x y h = absurd (omega arith)
word_at (w ∷ ws) zero x y h = refl
word_at (w ∷ ws) (suc k) x y h = word_at ws k x y (omega arith)

-- ---- ys are the m words of ws from a on

pub record Part (ys ws : List ℕ) (a m : ℕ) : Type 0 where
  pub long : length ys ≡ m
  pub at : (k : ℕ) → k < m → get_or ys k 0 ≡ get_or ws (a + k) 0
  pub within : a + m ≤ length ws

-- ws[a..e]
pub part-mid : (a e m : ℕ) (ws : List ℕ) → e ≡ a + m → e ≤ length ws → Part (take (e - a) (drop a ws)) ws a m
part-mid a e m ws t h = record {
  long = part_length a e ws (omega arith) h ∙ omega arith;
  at = λ k s. part_at a e ws (omega arith) h k (omega arith);
  within = omega arith;
}

-- ws[..m]
pub part-front : (m : ℕ) (ws : List ℕ) → m ≤ length ws → Part (take m ws) ws 0 m
part-front m ws h = record {
  long = simp length-take (omega arith);
  at = λ k s. let e : 0 + k ≡ k = omega arith in get_or-take m ws k 0 s ∙ sym (ap (λ (j : ℕ). get_or ws j 0) e);
  within = omega arith;
}

-- a test of each word of the part, and what it says of the slice's word
module _ {ys ws : List ℕ} {a m : ℕ} (p : Part ys ws a m) where
  word : (k d : ℕ) → k < m → get_or ys k 0 ≡ get_or ws (a + k) d
  word k d s = p.at k s ∙ word_at ws (a + k) 0 d (omega (arith, p.within))

  pub part-word : (k d : ℕ) → k < m → get_or ys k d ≡ get_or ws (a + k) d
  part-word k d s = word_at ys k d 0 (omega (arith, p.long)) ∙ word k d s

  says-part : (r : Bool) (t : ℕ → Bool) (P : ℕ → Type 0) → r ≡ all (length ys) t
      → ((k : ℕ) → k < m → t k ≡ true → P k) → ((k : ℕ) → k < m → P k → t k ≡ true) → Says r ((k : ℕ) → k < m → P k)
  says-part r t P e f g =
      let l = p.long in
      says_all r m t P (e ∙ ap (λ (n : ℕ). all n t) l) f g

  pub rise_says : (r : Bool) (x d : ℕ) → r ≡ all (length ys) (λ k. eqb (get_or ys k 0) (x + k)) → Says r ((k : ℕ) → k < m → get_or ws (a + k) d ≡ x + k)
  rise_says r x d e =
      says-part r (λ k. eqb (get_or ys k 0) (x + k)) (λ k. get_or ws (a + k) d ≡ x + k) e
      (λ k s t. sym (word k d s) ∙ eqb-true _ _ t) (λ k s t. eq-eqb _ _ (word k d s ∙ t))

  pub same-says : (r : Bool) (x d : ℕ) → r ≡ all (length ys) (λ k. eqb (get_or ys k 0) x) → Says r ((k : ℕ) → k < m → get_or ws (a + k) d ≡ x)
  same-says r x d e =
      says-part r (λ k. eqb (get_or ys k 0) x) (λ k. get_or ws (a + k) d ≡ x) e
      (λ k s t. sym (word k d s) ∙ eqb-true _ _ t) (λ k s t. eq-eqb _ _ (word k d s ∙ t))

  pub below-says : (r : Bool) (x d : ℕ) → r ≡ all (length ys) (λ k. ltb (get_or ys k 0) x) → Says r ((k : ℕ) → k < m → get_or ws (a + k) d < x)
  below-says r x d e =
      says-part r (λ k. ltb (get_or ys k 0) x) (λ k. get_or ws (a + k) d < x) e
      (λ k s t. omega (arith, word k d s, ltb-true (get_or ys k 0) x t)) (λ k s t. lt-ltb (get_or ys k 0) x (omega (arith, word k d s)))
