-- Extents as rules 1 and 2 ask for them, one after the other: each carries what the one before it left behind. And what `lookup` says
-- before, in and after the first of a list.
use Rattle.std.specs.Prelude.{ℕ, ◌+◌, ◌-◌, ◌/◌, ◌*◌, ◌%◌, ◌≤◌, ◌<◌, ◌≡◌, refl, List, [], ◌∷◌}
use Rattle.std.proofs.Common.{sym, ap, ◌∙◌, subst₂, arith, mod-eq_of_lt, div-add-mod', lt-ltb, le-ltb}
use Rattle.std.proofs.Math.Logic.{by_cases}
use Rattle.std.proofs.Math.Decide.{dec_lt}
use Rattle.std.proofs.Math.Nat.{mod-add-mod, mod_self}
use Rattle.std.proofs.Math.Arith.{digits_div}
use Rattle.rules.specs.Extents.{none, lookup}
use Rattle.rules.specs.declared.Extent.{Extent}

-- an extent that may stand after one that ended before (lo, q): logical page lo, physical page q
pub record Row (n lo q : ℕ) (e : Extent) : Type 0 where
  pub above : lo ≤ e.logical
  pub some : 0 < e.count
  pub inside : e.physical % n + e.count ≤ n
  pub small : e.physical + e.count ≤ none
  pub apart : e.logical ≡ lo → e.physical ≡ q → e.physical % n ≡ 0

abbrev pub Rows : ℕ → ℕ → ℕ → ℕ → List Extent → Type 0
Rows n lo q hi [] = lo ≤ hi
Rows n lo q hi (e ∷ es) = Row n lo q e × Rows n (e.logical + e.count) (e.physical + e.count) hi es

pub lookup-before : (e : Extent) (es : List Extent) (l : ℕ) → l < e.logical → lookup (e ∷ es) l ≡ none
unfolding lookup
lookup-before e es l h = rw (lt-ltb l e.logical h)

pub lookup_in : (e : Extent) (es : List Extent) (l : ℕ) → e.logical ≤ l → l < e.logical + e.count → lookup (e ∷ es) l ≡ e.physical + (l - e.logical)
unfolding lookup
lookup_in e es l h t = rw (le-ltb l e.logical h, lt-ltb l (e.logical + e.count) t)

pub lookup-after : (e : Extent) (es : List Extent) (l : ℕ) → e.logical + e.count ≤ l → lookup (e ∷ es) l ≡ lookup es l
unfolding lookup
lookup-after e es l h = rw (le-ltb l e.logical (omega arith), le-ltb l (e.logical + e.count) h)

pub lookup_cons : (e : Extent) (xs ys : List Extent) (l : ℕ) → lookup xs l ≡ lookup ys l → lookup (e ∷ xs) l ≡ lookup (e ∷ ys) l
unfolding lookup
lookup_cons e xs ys l h = rw h

-- ---- pages of a block: d pages behind p, still in its block; and the page behind the block's last

pub mod_shift : (n p d : ℕ) → p % n + d < n → (p + d) % n ≡ p % n + d
mod_shift n p d h = sym (mod-add-mod p n d) ∙ mod-eq_of_lt h

pub div_shift : (n p d : ℕ) → p % n + d < n → (p + d) / n ≡ p / n
div_shift n p d h =
    let e : p + d ≡ p / n * n + (p % n + d) = omega (arith, div-add-mod' p n) in
    ap (λ (x : ℕ). x / n) e ∙ digits_div (p / n) h

pub mod_edge : (n p d : ℕ) → p % n + d ≡ n → (p + d) % n ≡ 0
mod_edge n p d h = sym (mod-add-mod p n d) ∙ ap (λ (x : ℕ). x % n) h ∙ mod_self n

-- ---- rows that stand elsewhere

pub rows_at : (n hi : ℕ) (es : List Extent) {lo q lo' q' : ℕ} → lo ≡ lo' → q ≡ q' → Rows n lo q hi es → Rows n lo' q' hi es
rows_at n hi es a b h = subst₂ (λ (u v : ℕ). Rows n u v hi es) a b h

pub rows_le : (n hi : ℕ) (es : List Extent) (lo q : ℕ) → Rows n lo q hi es → lo ≤ hi
rows_le n hi [] lo q h = h
rows_le n hi (e ∷ es) lo q h = let t = rows_le n hi es _ _ h.1 in omega arith

-- behind a gap nothing is asked of the first
pub rows-gap : (n hi : ℕ) (es : List Extent) (lo q lo' q' : ℕ) → lo' < lo → Rows n lo q hi es → Rows n lo' q' hi es
rows-gap n hi [] lo q lo' q' g h = omega arith
rows-gap n hi (e ∷ es) lo q lo' q' g h =
    (record { above = omega arith; some = h.0.some; inside = h.0.inside; small = h.0.small; apart = λ a b. absurd (omega arith) }, h.1)

-- nor where no page was before
pub rows-first : (n hi : ℕ) (es : List Extent) (lo q lo' : ℕ) → lo' ≤ lo → Rows n lo q hi es → Rows n lo' none hi es
rows-first n hi [] lo q lo' g h = omega arith
rows-first n hi (e ∷ es) lo q lo' g h =
    (record { above = omega arith; some = h.0.some; inside = h.0.inside; small = h.0.small; apart = λ a b. absurd (omega arith) }, h.1)

-- ---- what they say

pub lookup-low : (n hi : ℕ) (es : List Extent) (lo q l : ℕ) → Rows n lo q hi es → l < lo → lookup es l ≡ none
unfolding lookup
lookup-low n hi [] lo q l h s = refl
lookup-low n hi (e ∷ es) lo q l h s = lookup-before e es l (omega arith)

pub lookup-word : (n hi : ℕ) (es : List Extent) (lo q l : ℕ) → Rows n lo q hi es → lookup es l ≤ none
unfolding lookup
lookup-word n hi [] lo q l h = omega arith
lookup-word n hi (e ∷ es) lo q l h =
    by_cases (dec_lt l e.logical)
    (λ a. omega (arith, lookup-before e es l a))
    (λ a. by_cases (dec_lt l (e.logical + e.count))
    (λ b. omega (arith, lookup_in e es l (omega arith) b))
    (λ b. omega (arith, lookup-after e es l (omega arith), lookup-word n hi es _ _ l h.1)))
