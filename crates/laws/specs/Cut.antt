-- The extents below a logical page, those from one on, each clipped there, and the cut of a range.
use Rattle.std.specs.Prelude.{ℕ, ◌+◌, ◌-◌, ◌≤◌, ◌<◌, ◌≡◌, refl, List, [], ◌∷◌, ◌++◌, cond, leb, ltb}
use Rattle.std.proofs.Common.{sym, ◌∙◌, arith}
use Rattle.std.proofs.Math.Logic.{by_cases}
use Rattle.std.proofs.Math.Decide.{dec_lt}
use borrow.Author.Tests.{lt-ltb, le-ltb, le-leb, lt-leb}
use Rattle.rules.specs.Extents.{none, extent, lookup}
use Rattle.rules.specs.declared.Extent.{Extent}
use Rattle.laws.specs.Rows.{Rows, rows_at, rows_le, rows-gap, lookup-before, lookup_in, lookup-after, lookup-low, mod_shift}

-- what lies below logical page a
unfoldable pub below : ℕ → List Extent → List Extent
below a [] = []
below a (e ∷ es) =
    cond (leb a e.logical) []
    (cond (ltb a (e.logical + e.count)) (extent e.logical e.physical (a - e.logical) ∷ []) (e ∷ below a es))

-- what lies from logical page b on
unfoldable pub from : ℕ → List Extent → List Extent
from b [] = []
from b (e ∷ es) =
    cond (leb (e.logical + e.count) b) (from b es)
    (cond (ltb e.logical b) (extent b (e.physical + (b - e.logical)) (e.logical + e.count - b) ∷ es) (e ∷ es))

-- without the lines from a up to b
unfoldable pub cut : ℕ → ℕ → List Extent → List Extent
cut a b es = below a es ++ from b es

module _ (a : ℕ) (e : Extent) (es : List Extent) where
  pub below_none : a ≤ e.logical → below a (e ∷ es) ≡ []
  unfolding below
  below_none h = rw (le-leb a e.logical h)

  pub below-part : e.logical < a → a < e.logical + e.count → below a (e ∷ es) ≡ extent e.logical e.physical (a - e.logical) ∷ []
  unfolding below
  below-part h t = rw (lt-leb a e.logical h, lt-ltb a (e.logical + e.count) t)

  pub below_all : e.logical < a → e.logical + e.count ≤ a → below a (e ∷ es) ≡ e ∷ below a es
  unfolding below
  below_all h t = rw (lt-leb a e.logical h, le-ltb a (e.logical + e.count) t)

  pub from-none : e.logical + e.count ≤ a → from a (e ∷ es) ≡ from a es
  unfolding from
  from-none h = rw (le-leb (e.logical + e.count) a h)

  pub from-part : e.logical < a → a < e.logical + e.count → from a (e ∷ es) ≡ extent a (e.physical + (a - e.logical)) (e.logical + e.count - a) ∷ es
  unfolding from
  from-part h t = rw (lt-leb (e.logical + e.count) a t, lt-ltb e.logical a h)

  pub from_all : a ≤ e.logical → a < e.logical + e.count → from a (e ∷ es) ≡ e ∷ es
  unfolding from
  from_all h t = rw (lt-leb (e.logical + e.count) a t, le-ltb e.logical a h)

-- ---- what they say

pub below-lookup : (a : ℕ) (es : List Extent) (l : ℕ) → l < a → lookup (below a es) l ≡ lookup es l
unfolding lookup below
below-lookup a [] l s = refl
below-lookup a (e ∷ es) l s =
    by_cases (dec_lt e.logical a)
    (λ g. by_cases (dec_lt a (e.logical + e.count))
    (λ h. rw (below-part a e es g h)
    (by_cases (dec_lt l e.logical)
    (λ b. omega (arith, lookup-before e es l b, lookup-before (extent e.logical e.physical (a - e.logical)) [] l b))
    (λ b. omega (arith, lookup_in e es l (omega arith) (omega arith), lookup_in (extent e.logical e.physical (a - e.logical)) [] l (omega arith) (omega arith)))))
    (λ h. rw (below_all a e es g (omega arith))
    (by_cases (dec_lt l e.logical)
    (λ b. omega (arith, lookup-before e es l b, lookup-before e (below a es) l b))
    (λ b. by_cases (dec_lt l (e.logical + e.count))
    (λ c. omega (arith, lookup_in e es l (omega arith) c, lookup_in e (below a es) l (omega arith) c))
    (λ c. omega (arith, lookup-after e es l (omega arith), lookup-after e (below a es) l (omega arith), below-lookup a es l s))))))
    (λ g. rw (below_none a e es (omega arith)) (sym (lookup-before e es l (omega arith))))

pub from-lookup : (b : ℕ) (es : List Extent) (l : ℕ) → b ≤ l → lookup (from b es) l ≡ lookup es l
unfolding lookup from
from-lookup b [] l s = refl
from-lookup b (e ∷ es) l s =
    by_cases (dec_lt b (e.logical + e.count))
    (λ g. by_cases (dec_lt e.logical b)
    (λ h. let r = extent b (e.physical + (b - e.logical)) (e.logical + e.count - b) in
    rw (from-part b e es h g)
    (by_cases (dec_lt l (e.logical + e.count))
    (λ c. omega (arith, lookup_in e es l (omega arith) c, lookup_in r es l s (omega arith)))
    (λ c. omega (arith, lookup-after e es l (omega arith), lookup-after r es l (omega arith)))))
    (λ h. rw (from_all b e es (omega arith) g) refl))
    (λ g. rw (from-none b e es (omega arith)) (from-lookup b es l s ∙ sym (lookup-after e es l (omega arith))))

-- ---- that they are sound

pub below_rows : (n hi a : ℕ) (es : List Extent) (lo q : ℕ) → lo ≤ a → Rows n lo q hi es → Rows n lo q a (below a es)
unfolding below
below_rows n hi a [] lo q s h = s
below_rows n hi a (e ∷ es) lo q s h =
    by_cases (dec_lt e.logical a)
    (λ g. by_cases (dec_lt a (e.logical + e.count))
    (λ t. rw (below-part a e es g t)
    (record { above = h.0.above; some = omega arith; inside = omega arith; small = omega arith; apart = h.0.apart }, omega arith))
    (λ t. rw (below_all a e es g (omega arith)) (h.0, below_rows n hi a es _ _ (omega arith) h.1)))
    (λ g. rw (below_none a e es (omega arith)) s)

pub from-rows : (n hi b : ℕ) (es : List Extent) (lo q : ℕ) → b ≤ hi → Rows n lo q hi es → Rows n b none hi (from b es)
unfolding from
from-rows n hi b [] lo q s h = s
from-rows n hi b (e ∷ es) lo q s h =
    by_cases (dec_lt b (e.logical + e.count))
    (λ g. by_cases (dec_lt e.logical b)
    (λ t. let m = mod_shift n e.physical (b - e.logical) (omega arith) in
    rw (from-part b e es t g) (
      record { above = omega arith; some = omega arith; inside = omega arith; small = omega arith; apart = λ eq f. absurd (omega arith) },
      rows_at n hi es (omega arith) (omega arith) h.1,
    ))
    (λ t. rw (from_all b e es (omega arith) g)
    (record { above = omega arith; some = h.0.some; inside = h.0.inside; small = h.0.small; apart = λ eq f. absurd (omega arith) }, h.1)))
    (λ g. rw (from-none b e es (omega arith)) (from-rows n hi b es _ _ s h.1))

pub append_rows : (n m m' hi : ℕ) (es ys : List Extent) (lo q : ℕ) → m < m' → Rows n lo q m es → Rows n m' none hi ys → Rows n lo q hi (es ++ ys)
append_rows n m m' hi [] ys lo q s h t = rows-gap n hi ys m' none lo q (omega arith) t
append_rows n m m' hi (e ∷ es) ys lo q s h t = (h.0, append_rows n m m' hi es ys _ _ s h.1 t)

-- below the seam a chain of two says what the first says, and from it on what the second says
pub append_left : (n m m' hi : ℕ) (es ys : List Extent) (lo q q' l : ℕ) → Rows n lo q m es → Rows n m' q' hi ys → l < m' → l < m → lookup (es ++ ys) l ≡ lookup es l
unfolding lookup
append_left n m m' hi [] ys lo q q' l h t s s' = lookup-low n hi ys m' q' l t s
append_left n m m' hi (e ∷ es) ys lo q q' l h t s s' =
    by_cases (dec_lt l e.logical)
    (λ b. omega (arith, lookup-before e es l b, lookup-before e (es ++ ys) l b))
    (λ b. by_cases (dec_lt l (e.logical + e.count))
    (λ c. omega (arith, lookup_in e es l (omega arith) c, lookup_in e (es ++ ys) l (omega arith) c))
    (λ c. omega (arith, lookup-after e es l (omega arith), lookup-after e (es ++ ys) l (omega arith), append_left n m m' hi es ys _ _ q' l h.1 t s s')))

pub append_right : (n m : ℕ) (es ys : List Extent) (lo q l : ℕ) → Rows n lo q m es → m ≤ l → lookup (es ++ ys) l ≡ lookup ys l
append_right n m [] ys lo q l h s = refl
append_right n m (e ∷ es) ys lo q l h s =
    let g = rows_le n m es _ _ h.1 in
    lookup-after e (es ++ ys) l (omega arith) ∙ append_right n m es ys _ _ l h.1 s

-- ---- the cut

module _ (n hi a b : ℕ) (es : List Extent) (s : a < b) (f : b ≤ hi) (h : Rows n 0 none hi es) where
  pub cut-rows : Rows n 0 none hi (cut a b es)
  unfolding cut
  cut-rows = append_rows n a b hi (below a es) (from b es) 0 none s (below_rows n hi a es 0 none (omega arith) h) (from-rows n hi b es 0 none f h)

  pub cut_left : (l : ℕ) → l < a → lookup (cut a b es) l ≡ lookup es l
  unfolding cut
  cut_left l g =
      append_left n a b hi (below a es) (from b es) 0 none none l (below_rows n hi a es 0 none (omega arith) h) (from-rows n hi b es 0 none f h) (omega arith) g
      ∙ below-lookup a es l g

  pub cut_in : (l : ℕ) → a ≤ l → l < b → lookup (cut a b es) l ≡ none
  unfolding cut
  cut_in l g t =
      append_right n a (below a es) (from b es) 0 none l (below_rows n hi a es 0 none (omega arith) h) g
      ∙ lookup-low n hi (from b es) b none l (from-rows n hi b es 0 none f h) t

  pub cut_right : (l : ℕ) → b ≤ l → lookup (cut a b es) l ≡ lookup es l
  unfolding cut
  cut_right l g =
      append_right n a (below a es) (from b es) 0 none l (below_rows n hi a es 0 none (omega arith) h) (omega arith)
      ∙ from-lookup b es l g
