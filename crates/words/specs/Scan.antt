-- A scan of every word of a part: what it has found before word n, and with word n.
use Rattle.std.specs.Prelude.{ℕ, ◌+◌, Bool, true, false, ◌&&◌, ◌≡◌, refl, eqb}
use Rattle.std.proofs.Math.Bool.{and-true, and-false}
use Rattle.std.proofs.Common.{sym, ◌∙◌, ap, ap₂, add-one, arith, eqb-true, eq-eqb}
use Rattle.std.specs.Int.Bits.{bit_or, bit_xor, or_add_and, xor_add_and, xor_self, or_zero_r}
use Rattle.std.proofs.lemmas.Nat.{and_le_l, and_le_r}
use Rattle.rules.specs.Counting.{all}
use Rattle.laws.specs.Bools.{same_test, and_split, and-join}

pub scan-none : (t : ℕ → Bool) → true ≡ all 0 t
unfolding all
scan-none t = refl

scan-next : (n : ℕ) (t : ℕ → Bool) → all (n + 1) t ≡ (all n t && t n)
unfolding all
scan-next n t = rw (add-one n)

pub scan_fails : (n : ℕ) (t : ℕ → Bool) → t n ≡ false → false ≡ all (n + 1) t
scan_fails n t e = sym (scan-next n t ∙ ap (λ (b : Bool). all n t && b) e ∙ and-false (all n t))

pub scan-goes : (n : ℕ) (t : ℕ → Bool) (b : Bool) → b ≡ all n t → t n ≡ true → b ≡ all (n + 1) t
scan-goes n t b h e = h ∙ sym (scan-next n t ∙ ap (λ (c : Bool). all n t && c) e ∙ and-true (all n t))

pub scan-end : (k n : ℕ) (t : ℕ → Bool) (b : Bool) → b ≡ all k t → k ≡ n → b ≡ all n t
scan-end k n t b h e = h ∙ ap (λ (j : ℕ). all j t) e

-- ---- bits in which words differ from what they should be, gathered: none are, if and only if no word differs

or_none : (a b : ℕ) → bit_or a b ≡ 0 → (a ≡ 0) × (b ≡ 0)
or_none a b e = (omega (arith, or_add_and a b, and_le_r a b), omega (arith, or_add_and a b, and_le_l a b))

xor_none : (a b : ℕ) → bit_xor a b ≡ 0 → a ≡ b
xor_none a b e = omega (arith, xor_add_and a b, and_le_l a b, and_le_r a b)

both-none : (a x : ℕ) → eqb (bit_or a x) 0 ≡ (eqb a 0 && eqb x 0)
both-none a x =
    same_test (eqb (bit_or a x) 0) (eqb a 0 && eqb x 0)
    (λ t. let n = or_none a x (eqb-true (bit_or a x) 0 t) in and-join (eqb a 0) (eqb x 0) (eq-eqb a 0 n.0) (eq-eqb x 0 n.1))
    (λ t. let s = and_split (eqb a 0) (eqb x 0) t in eq-eqb (bit_or a x) 0 (ap₂ bit_or (eqb-true a 0 s.0) (eqb-true x 0 s.1) ∙ or_zero_r 0))

pub same_bits : (w y : ℕ) → eqb (bit_xor w y) 0 ≡ eqb w y
same_bits w y =
    same_test (eqb (bit_xor w y) 0) (eqb w y)
    (λ t. eq-eqb w y (xor_none w y (eqb-true (bit_xor w y) 0 t)))
    (λ t. eq-eqb (bit_xor w y) 0 (ap (bit_xor w) (sym (eqb-true w y t)) ∙ xor_self w))

pub scan_or : (n : ℕ) (t : ℕ → Bool) (a x : ℕ) → eqb a 0 ≡ all n t → t n ≡ eqb x 0 → eqb (bit_or a x) 0 ≡ all (n + 1) t
scan_or n t a x h e = both-none a x ∙ ap₂ (λ (b c : Bool). b && c) h (sym e) ∙ sym (scan-next n t)

pub scan_bits : (n : ℕ) (t : ℕ → Bool) (a w y : ℕ) → eqb a 0 ≡ all n t → t n ≡ eqb w y → eqb (bit_or a (bit_xor w y)) 0 ≡ all (n + 1) t
scan_bits n t a w y h e = scan_or n t a (bit_xor w y) h (e ∙ sym (same_bits w y))
