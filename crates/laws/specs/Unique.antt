-- Two sound lists of extents that say the same of every logical page are one list.
use Rattle.std.specs.Prelude.{ℕ, ◌+◌, ◌%◌, ◌≤◌, ◌<◌, ◌≡◌, refl, List, [], ◌∷◌}
use Rattle.std.proofs.Common.{sym, ◌∙◌, subst, arith}
use Rattle.std.proofs.Math.Logic.{by_cases}
use Rattle.std.proofs.Math.Decide.{dec_lt}
use Rattle.rules.specs.Extents.{none, lookup}
use Rattle.rules.specs.declared.Extent.{Extent}
use Rattle.laws.specs.Rows.{Row, Rows, rows_at, rows_le, lookup-before, lookup_in, lookup-after, mod_shift}

pub extent_path : (x y : Extent) → x.logical ≡ y.logical → x.physical ≡ y.physical → x.count ≡ y.count → x ≡ y
extent_path x y a b c = λ i. record { logical = a i; physical = b i; count = c i }

-- an extent that goes on where the last one ended begins a block
pub seam : (n hi : ℕ) (xs : List Extent) (lo q : ℕ) → Rows n lo q hi xs → lookup xs lo ≡ q → q < none → q % n ≡ 0
unfolding lookup
seam n hi [] lo q h eq s = absurd (omega arith)
seam n hi (e ∷ es) lo q h eq s =
    by_cases (dec_lt lo e.logical)
    (λ b. absurd (omega (arith, lookup-before e es lo b)))
    (λ b. let i = lookup_in e es lo (omega arith) (omega arith) in
    let p : e.physical ≡ q = omega arith in
    subst (λ (x : ℕ). x % n ≡ 0) p (h.0.apart (omega arith) p))

-- of two lists that agree at the first's first page, the second has begun by then
first_le : (n lo q : ℕ) (x y : Extent) (xs ys : List Extent) → Row n lo q x → lookup (x ∷ xs) x.logical ≡ lookup (y ∷ ys) x.logical → y.logical ≤ x.logical
first_le n lo q x y xs ys h eq =
    by_cases (dec_lt x.logical y.logical)
    (λ b. absurd (omega (arith, lookup-before y ys x.logical b, lookup_in x xs x.logical (omega arith) (omega arith))))
    (λ b. omega arith)

count_le : (n lo q hi : ℕ) (x y : Extent) (xs ys : List Extent) → Rows n lo q hi (x ∷ xs) → Row n lo q y
    → x.logical ≡ y.logical → x.physical ≡ y.physical
    → (x.count < y.count → lookup (x ∷ xs) (x.logical + x.count) ≡ lookup (y ∷ ys) (x.logical + x.count))
    → y.count ≤ x.count
count_le n lo q hi x y xs ys hx hy el ep same =
    by_cases (dec_lt x.count y.count)
    (λ b. let eq = same b in
    let i = lookup_in y ys (x.logical + x.count) (omega arith) (omega arith) in
    let j = lookup-after x xs (x.logical + x.count) (omega arith) in
    let z = seam n hi xs (x.logical + x.count) (x.physical + x.count) hx.1 (omega arith) (omega arith) in
    let m = mod_shift n x.physical x.count (subst (λ (w : ℕ). w % n + x.count < n) (sym ep) (omega arith)) in
    absurd (omega arith))
    (λ b. omega arith)

pub unique : (n hi : ℕ) (xs ys : List Extent) (lo q : ℕ) → Rows n lo q hi xs → Rows n lo q hi ys
    → ((l : ℕ) → lo ≤ l → l < hi → lookup xs l ≡ lookup ys l) → xs ≡ ys
unfolding lookup
unique n hi [] [] lo q hx hy same = refl
unique n hi [] (y ∷ ys) lo q hx hy same =
    let t = rows_le n hi ys _ _ hy.1 in
    let eq = same y.logical (omega arith) (omega arith) in
    absurd (omega (arith, lookup_in y ys y.logical (omega arith) (omega arith)))
unique n hi (x ∷ xs) [] lo q hx hy same =
    let t = rows_le n hi xs _ _ hx.1 in
    let eq = same x.logical (omega arith) (omega arith) in
    absurd (omega (arith, lookup_in x xs x.logical (omega arith) (omega arith)))
unique n hi (x ∷ xs) (y ∷ ys) lo q hx hy same =
    let t = rows_le n hi xs _ _ hx.1 in
    let u = rows_le n hi ys _ _ hy.1 in
    let a = first_le n lo q x y xs ys hx.0 (same x.logical (omega arith) (omega arith)) in
    let b = first_le n lo q y x ys xs hy.0 (sym (same y.logical (omega arith) (omega arith))) in
    let el : x.logical ≡ y.logical = omega arith in
    let eq = same x.logical (omega arith) (omega arith) in
    let ep : x.physical ≡ y.physical = omega (arith, lookup_in x xs x.logical (omega arith) (omega arith), lookup_in y ys x.logical (omega arith) (omega arith)) in
    let c = count_le n lo q hi x y xs ys hx hy.0 el ep (λ c. same (x.logical + x.count) (omega arith) (omega arith)) in
    let d = count_le n lo q hi y x ys xs hy hx.0 (sym el) (sym ep) (λ c. sym (same (y.logical + y.count) (omega arith) (omega arith))) in
    let ec : x.count ≡ y.count = omega arith in
    let r = unique n hi xs ys (x.logical + x.count) (x.physical + x.count) hx.1 (rows_at n hi ys (omega arith) (omega arith) hy.1)
    (λ l g s. sym (lookup-after x xs l g) ∙ same l (omega arith) s ∙ lookup-after y ys l (omega arith)) in
    λ i. extent_path x y el ep ec i ∷ r i
