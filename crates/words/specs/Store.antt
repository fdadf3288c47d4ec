-- Stores from the first word on: the words before place k are what a function gives, those from k on are as they were.
use Rattle.std.specs.Prelude.{ℕ, zero, suc, ◌+◌, ◌<◌, ◌≤◌, List, [], ◌∷◌, ◌≡◌, refl, length, get_or, set}
use Rattle.std.proofs.Common.{sym, ap, ◌∙◌, arith, add-one, ext_get_or}
use Rattle.rules.specs.Counting.{tabulate}
use Rattle.laws.specs.Cells.{length-tabulate, get_or-tabulate}

unfoldable pub stored : (ℕ → ℕ) → ℕ → List ℕ → List ℕ
stored f zero xs = xs
stored f (suc k) [] = []
stored f (suc k) (x ∷ xs) = f 0 ∷ stored (λ i. f (suc i)) k xs

pub stored-start : (f : ℕ → ℕ) (xs : List ℕ) → xs ≡ stored f 0 xs
unfolding stored
stored-start f xs = refl

pub stored-length : (f : ℕ → ℕ) (k : ℕ) (xs : List ℕ) → length (stored f k xs) ≡ length xs
unfolding stored
stored-length f zero xs = refl
stored-length f (suc k) [] = refl
stored-length f (suc k) (x ∷ xs) = ap suc (stored-length (λ i. f (suc i)) k xs)

next : (f : ℕ → ℕ) (k : ℕ) (xs : List ℕ) → k < length xs → set (stored f k xs) k (f k) ≡ stored f (suc k) xs
unfolding stored
next f k [] h = absurd (omega arith)
next f zero (x ∷ xs) h = refl
next f (suc k) (x ∷ xs) h = ap (λ (r : List ℕ). f 0 ∷ r) (next (λ i. f (suc i)) k xs (omega arith))

pub stored_next : (f : ℕ → ℕ) (k : ℕ) (xs ys : List ℕ) → k < length xs → ys ≡ stored f k xs → set ys k (f k) ≡ stored f (k + 1) xs
stored_next f k xs ys h e = rw (e, add-one k) (next f k xs h)

pub stored-read : (f : ℕ → ℕ) (k : ℕ) (xs : List ℕ) (i : ℕ) → k ≤ i → get_or (stored f k xs) i 0 ≡ get_or xs i 0
unfolding stored
stored-read f zero xs i h = refl
stored-read f (suc k) [] i h = refl
stored-read f (suc k) (x ∷ xs) zero h = absurd (omega arith)
stored-read f (suc k) (x ∷ xs) (suc i) h = stored-read (λ j. f (suc j)) k xs i (omega arith)

-- a list whose words are what the function gives
pub tabulated : (n : ℕ) (f : ℕ → ℕ) (ys : List ℕ) → length ys ≡ n → ((k : ℕ) → k < n → get_or ys k 0 ≡ f k) → ys ≡ tabulate n f
tabulated n f ys h g =
    let long = length-tabulate n f in
    ext_get_or 0 ys (tabulate n f) (h ∙ sym long) (λ k s. g k (omega arith) ∙ sym (get_or-tabulate n f k 0 (omega arith)))
