-- Counting, testing and choosing among the numbers below a bound: the words in which the rules are said.
use Rattle.std.specs.Prelude.{ℕ, zero, suc, ◌+◌, Bool, true, false, cond, ◌&&◌, ◌||◌, List, [], ◌∷◌, ◌++◌, ltb, eqb}

-- 1 for a test that passes, 0 for one that fails
abbrev pub one : Bool → ℕ
one true = 1
one false = 0

-- f 0 + f 1 + .. + f (n - 1)
unfoldable pub sum : ℕ → (ℕ → ℕ) → ℕ
sum zero f = 0
sum (suc n) f = sum n f + f n

-- how many numbers below n pass the test
unfoldable pub count : ℕ → (ℕ → Bool) → ℕ
count zero t = 0
count (suc n) t = count n t + one (t n)

-- every number below n passes the test
unfoldable pub all : ℕ → (ℕ → Bool) → Bool
all zero t = true
all (suc n) t = all n t && t n

-- the least number that passes the test, or n where none below n does
unfoldable pub first : ℕ → (ℕ → Bool) → ℕ
first zero t = 0
first (suc n) t = let rest = first n (λ i. t (suc i)) in cond (t 0) 0 (suc rest)

-- the number below n with the greatest value, the lowest of these
unfoldable pub most : ℕ → (ℕ → ℕ) → ℕ
most zero f = 0
most (suc n) f = let r = most n f in cond (ltb (f r) (f n)) n r

-- the numbers below n that pass the test, in rising order
unfoldable pub picks : ℕ → (ℕ → Bool) → List ℕ
picks zero t = []
picks (suc n) t = picks n t ++ cond (t n) (n ∷ []) []

-- f 0, f 1, .., f (n - 1)
unfoldable pub tabulate : {A : Type 0} → ℕ → (ℕ → A) → List A
tabulate zero f = []
tabulate (suc n) f = f 0 ∷ tabulate n (λ i. f (suc i))

-- x stands somewhere in the list
unfoldable pub among : ℕ → List ℕ → Bool
among x [] = false
among x (y ∷ ys) = eqb x y || among x ys
