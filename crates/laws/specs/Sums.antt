-- Laws of sums and counts over the numbers below a bound.
use Rattle.std.specs.Prelude.{ℕ, zero, suc, ◌+◌, ◌-◌, ◌*◌, ◌≤◌, ◌<◌, ◌≡◌, refl, Bool, true, false, not, cond}
use Rattle.std.proofs.Common.{sym, ap, ◌∙◌, arith, suc-mul, zero-mul}
use Rattle.std.proofs.Math.Logic.{by_cases}
use Rattle.std.proofs.Math.Decide.{ℕ_discrete}
use Rattle.rules.specs.Counting.{one, sum, count, all}
use Rattle.laws.specs.Bools.{and_split, and-join}

pub sum_same : (n : ℕ) (f g : ℕ → ℕ) → ((i : ℕ) → i < n → f i ≡ g i) → sum n f ≡ sum n g
unfolding sum
sum_same zero f g h = refl
sum_same (suc n) f g h = omega (arith, sum_same n f g (λ i s. h i (omega arith)), h n (omega arith))

pub sum_le : (n : ℕ) (f g : ℕ → ℕ) → ((i : ℕ) → i < n → f i ≤ g i) → sum n f ≤ sum n g
unfolding sum
sum_le zero f g h = omega arith
sum_le (suc n) f g h = omega (arith, sum_le n f g (λ i s. h i (omega arith)), h n (omega arith))

pub sum_add : (n : ℕ) (f g : ℕ → ℕ) → sum n (λ i. f i + g i) ≡ sum n f + sum n g
unfolding sum
sum_add zero f g = refl
sum_add (suc n) f g = omega (arith, sum_add n f g)

pub sum_const : (n c : ℕ) → sum n (λ i. c) ≡ n * c
unfolding sum
sum_const zero c = sym (zero-mul c)
sum_const (suc n) c = omega (arith, sum_const n c, suc-mul n c)

pub sum-zero : (n : ℕ) (f : ℕ → ℕ) → ((i : ℕ) → i < n → f i ≡ 0) → sum n f ≡ 0
unfolding sum
sum-zero zero f h = refl
sum-zero (suc n) f h = omega (arith, sum-zero n f (λ i s. h i (omega arith)), h n (omega arith))

pub zero-sum : (n : ℕ) (f : ℕ → ℕ) → sum n f ≡ 0 → (i : ℕ) → i < n → f i ≡ 0
unfolding sum
zero-sum zero f e i s = absurd (omega arith)
zero-sum (suc n) f e i s =
    by_cases (ℕ_discrete i n)
    (λ d. rw d (omega arith))
    (λ d. zero-sum n f (omega arith) i (omega arith))

-- one term differs
pub sum_change : (n : ℕ) (f g : ℕ → ℕ) (k : ℕ) → k < n → ((i : ℕ) → i < n → (i ≡ k → ⊥) → f i ≡ g i) → sum n f + g k ≡ sum n g + f k
unfolding sum
sum_change zero f g k s h = absurd (omega arith)
sum_change (suc n) f g k s h =
    by_cases (ℕ_discrete k n)
    (λ d. rw d (omega (arith, sum_same n f g (λ i t. h i (omega arith) (omega arith)))))
    (λ d. omega (arith, sum_change n f g k (omega arith) (λ i t. h i (omega arith)), h n (omega arith) (omega arith)))

-- only one term counts
pub sum_one : (n : ℕ) (f : ℕ → ℕ) (k : ℕ) → k < n → ((i : ℕ) → i < n → (i ≡ k → ⊥) → f i ≡ 0) → sum n f ≡ f k
sum_one n f k s h = omega (arith, sum_change n f (λ i. 0) k s h, sum-zero n (λ i. 0) (λ i t. refl))

pub sum-swap : (n m : ℕ) (f : ℕ → ℕ → ℕ) → sum n (λ i. sum m (f i)) ≡ sum m (λ j. sum n (λ i. f i j))
unfolding sum
sum-swap zero m f = sym (sum-zero m (λ j. 0) (λ j s. refl))
sum-swap (suc n) m f =
    omega (arith, sum-swap n m f, sum_add m (λ j. sum n (λ i. f i j)) (f n))

-- ---- counts

pub count-sum : (n : ℕ) (t : ℕ → Bool) → count n t ≡ sum n (λ i. one (t i))
unfolding count sum
count-sum zero t = refl
count-sum (suc n) t = omega (arith, count-sum n t)

pub count_same : (n : ℕ) (s t : ℕ → Bool) → ((i : ℕ) → i < n → s i ≡ t i) → count n s ≡ count n t
unfolding count
count_same zero s t h = refl
count_same (suc n) s t h = omega (arith, count_same n s t (λ i a. h i (omega arith)), ap one (h n (omega arith)))

one-not : (b : Bool) → one b + one (not b) ≡ 1
one-not true = refl
one-not false = refl

pub count-not : (n : ℕ) (t : ℕ → Bool) → count n t + count n (λ i. not (t i)) ≡ n
unfolding count
count-not zero t = refl
count-not (suc n) t = omega (arith, count-not n t, one-not (t n))

pub count_none : (n : ℕ) (t : ℕ → Bool) → ((i : ℕ) → i < n → t i ≡ false) → count n t ≡ 0
unfolding count
count_none zero t h = refl
count_none (suc n) t h = omega (arith, count_none n t (λ i s. h i (omega arith)), ap one (h n (omega arith)))

pub count-all : (n : ℕ) (t : ℕ → Bool) → ((i : ℕ) → i < n → t i ≡ true) → count n t ≡ n
count-all n t h = omega (arith, count-not n t, count_none n (λ i. not (t i)) (λ i s. ap not (h i s)))

pub one_le : (b : Bool) → one b ≤ 1
one_le true = omega arith
one_le false = omega arith

pub count_le : (n : ℕ) (t : ℕ → Bool) → count n t ≤ n
count_le n t = omega (arith, count-not n t)

-- the number of those before k rises at each that passes
pub count_mono : (n m : ℕ) (t : ℕ → Bool) → n ≤ m → count n t ≤ count m t
unfolding count
count_mono n zero t h = let e : n ≡ 0 = omega arith in rw e (omega arith)
count_mono n (suc m) t h =
    by_cases (ℕ_discrete n (suc m))
    (λ e. rw e (omega arith))
    (λ e. omega (arith, count_mono n m t (omega arith)))

pub count_rise : (k n : ℕ) (t : ℕ → Bool) → k < n → t k ≡ true → count k t < count n t
unfolding count
count_rise k n t s e = omega (arith, count_mono (suc k) n t s, ap one e)

pub count_change : (n : ℕ) (s t : ℕ → Bool) (k : ℕ) → k < n → ((i : ℕ) → i < n → (i ≡ k → ⊥) → s i ≡ t i) → count n s + one (t k) ≡ count n t + one (s k)
count_change n s t k a h =
    omega (arith, count-sum n s, count-sum n t, sum_change n (λ i. one (s i)) (λ i. one (t i)) k a (λ i b c. ap one (h i b c)))

-- one that fails is one less
pub count_lt : (n : ℕ) (t : ℕ → Bool) (k : ℕ) → k < n → t k ≡ false → count n t < n
count_lt n t k s e = omega (arith, count-not n t, count_rise k n (λ i. not (t i)) s (ap not e))

-- the first apart from the rest
pub count-first : (n : ℕ) (t : ℕ → Bool) → count (suc n) t ≡ one (t 0) + count n (λ i. t (suc i))
unfolding count
count-first zero t = omega arith
count-first (suc n) t = omega (arith, count-first n t)

-- a test that is the same all along
pub count_const : (n : ℕ) (t : ℕ → Bool) (b : Bool) → ((i : ℕ) → i < n → t i ≡ b) → count n t ≡ cond b n 0
count_const n t true h = count-all n t h
count_const n t false h = count_none n t h

-- ---- tests of every number below a bound

pub all-each : (n : ℕ) (t : ℕ → Bool) → all n t ≡ true → (i : ℕ) → i < n → t i ≡ true
unfolding all
all-each zero t e i h = absurd (omega arith)
all-each (suc n) t e i h =
    let p = and_split _ _ e in
    by_cases (ℕ_discrete i n) (λ d. ap t d ∙ p.1) (λ d. all-each n t p.0 i (omega arith))

pub each_all : (n : ℕ) (t : ℕ → Bool) → ((i : ℕ) → i < n → t i ≡ true) → all n t ≡ true
unfolding all
each_all zero t h = refl
each_all (suc n) t h = and-join _ _ (each_all n t (λ i s. h i (omega arith))) (h n (omega arith))

pub count_append : (a b : ℕ) (t : ℕ → Bool) → count (a + b) t ≡ count a t + count b (λ i. t (a + i))
unfolding count
count_append a zero t = let e : a + 0 ≡ a = omega arith in ap (λ (x : ℕ). count x t) e ∙ omega arith
count_append a (suc b) t = let e : a + suc b ≡ suc (a + b) = omega arith in ap (λ (x : ℕ). count x t) e ∙ omega (arith, count_append a b t)

-- tests that differ only from l up to l + n: the counts differ by what they differ by there
pub count-within : (m l n : ℕ) (s t : ℕ → Bool) → l + n ≤ m → ((j : ℕ) → (l ≤ j → j < l + n → ⊥) → s j ≡ t j)
    → count m s + count n (λ i. t (l + i)) ≡ count m t + count n (λ i. s (l + i))
count-within m l n s t h f =
    let k = m - (l + n) in
    let e : m ≡ l + n + k = omega arith in
    omega (
      arith,
      ap (λ (x : ℕ). count x s) e ∙ count_append (l + n) k s,
      count_append l n s,
      ap (λ (x : ℕ). count x t) e ∙ count_append (l + n) k t,
      count_append l n t,
      count_same l s t (λ j a. f j (λ p q. omega arith)),
      count_same k (λ i. s (l + n + i)) (λ i. t (l + n + i)) (λ i a. f (l + n + i) (λ p q. omega arith)),
    )
