-- The numbers below a bound that pass a test: the least of them, the list of them, and the place of each in that list. The number with the greatest value.
use Rattle.std.specs.Prelude.{ℕ, zero, suc, ◌≤◌, ◌<◌, ◌≡◌, refl, List, [], ◌∷◌, ◌++◌, Bool, true, false, cond, ltb, length, get_or}
use Rattle.std.proofs.Common.{sym, ap, ap₂, ◌∙◌, subst, append-nil, arith, lt-ltb, le-ltb, length-append}
use Rattle.std.proofs.lemmas.Bool.{false≢true}
use Rattle.std.proofs.Math.Logic.{by_cases}
use Rattle.std.proofs.Math.Decide.{dec_lt, ℕ_discrete}
use Rattle.std.proofs.Math.ListN.{get_or-append}
use Rattle.std.proofs.lemmas.List.{get_or_at}
use Rattle.rules.specs.Counting.{one, count, first, most, picks}
use Rattle.laws.specs.Bools.{cases}
use Rattle.laws.specs.Sums.{count_rise}

-- ---- the least that passes, or the bound

pub first_le : (n : ℕ) (t : ℕ → Bool) → first n t ≤ n
unfolding first
first_le zero t = omega arith
first_le (suc n) t = cases (t 0) (λ e. rw e (omega arith)) (λ e. rw e (omega (arith, first_le n (λ i. t (suc i)))))

pub first_passes : (n : ℕ) (t : ℕ → Bool) → first n t < n → t (first n t) ≡ true
unfolding first
first_passes zero t h = absurd (omega arith)
first_passes (suc n) t h =
    cases (t 0)
    (λ e. subst (λ (b : Bool). t (cond b 0 (suc (first n (λ i. t (suc i))))) ≡ true) (sym e) e)
    (λ e. let g : suc (first n (λ i. t (suc i))) < suc n = rw e at h in
    subst (λ (b : Bool). t (cond b 0 (suc (first n (λ i. t (suc i))))) ≡ true) (sym e) (first_passes n (λ i. t (suc i)) (omega arith)))

pub first_least : (n : ℕ) (t : ℕ → Bool) (i : ℕ) → i < first n t → t i ≡ false
unfolding first
first_least zero t i h = absurd (omega arith)
first_least (suc n) t zero h = cases (t 0) (λ e. let g : 0 < 0 = rw e at h in absurd (omega arith)) (λ e. e)
first_least (suc n) t (suc i) h =
    cases (t 0)
    (λ e. let g : suc i < 0 = rw e at h in absurd (omega arith))
    (λ e. let g : suc i < suc (first n (λ j. t (suc j))) = rw e at h in first_least n (λ j. t (suc j)) i (omega arith))

pub first_found : (n : ℕ) (t : ℕ → Bool) (i : ℕ) → i < n → t i ≡ true → first n t < n
first_found n t i s e =
    by_cases (dec_lt (first n t) n)
    (λ h. h)
    (λ h. absurd (false≢true (sym (first_least n t i (omega arith)) ∙ e)))

-- the first that passes, where those before it do not
pub first-is : (n : ℕ) (t : ℕ → Bool) (i : ℕ) → i < n → t i ≡ true → ((j : ℕ) → j < i → t j ≡ false) → first n t ≡ i
first-is n t i s e h =
    let f = first_found n t i s e in
    by_cases (dec_lt (first n t) i)
    (λ a. absurd (false≢true (sym (h (first n t) a) ∙ first_passes n t f)))
    (λ a. by_cases (dec_lt i (first n t)) (λ b. absurd (false≢true (sym (first_least n t i b) ∙ e))) (λ b. omega arith))

-- none passes
pub first-none : (n : ℕ) (t : ℕ → Bool) → ((j : ℕ) → j < n → t j ≡ false) → first n t ≡ n
first-none n t h =
    by_cases (dec_lt (first n t) n)
    (λ a. absurd (false≢true (sym (h (first n t) a) ∙ first_passes n t a)))
    (λ a. omega (arith, first_le n t))

-- ---- the one with the greatest value, the lowest of these

pub most_lt : (n : ℕ) (f : ℕ → ℕ) → 0 < n → most n f < n
unfolding most
most_lt zero f s = absurd (omega arith)
most_lt (suc n) f s =
    by_cases (dec_lt (f (most n f)) (f n))
    (λ h. rw (lt-ltb _ _ h) (omega arith))
    (λ h. rw (le-ltb (f (most n f)) (f n) (omega arith)) (by_cases (dec_lt 0 n)
    (λ a. omega (arith, most_lt n f a))
    (λ a. let e : n ≡ 0 = omega arith in rw e (omega arith))))

pub most-top : (n : ℕ) (f : ℕ → ℕ) (i : ℕ) → i < n → f i ≤ f (most n f)
unfolding most
most-top zero f i s = absurd (omega arith)
most-top (suc n) f i s =
    by_cases (dec_lt (f (most n f)) (f n))
    (λ h. rw (lt-ltb _ _ h) (by_cases (ℕ_discrete i n) (λ e. rw e (omega arith)) (λ e. omega (arith, most-top n f i (omega arith)))))
    (λ h. rw (le-ltb (f (most n f)) (f n) (omega arith)) (by_cases (ℕ_discrete i n) (λ e. rw e (omega arith)) (λ e. most-top n f i (omega arith))))

pub most-lowest : (n : ℕ) (f : ℕ → ℕ) (i : ℕ) → i < most n f → f i < f (most n f)
unfolding most
most-lowest zero f i s = absurd (omega arith)
most-lowest (suc n) f i s =
    by_cases (dec_lt (f (most n f)) (f n))
    (λ h. let g : i < n = rw (lt-ltb _ _ h) at s in rw (lt-ltb _ _ h) (omega (arith, most-top n f i g)))
    (λ h. let e = le-ltb (f (most n f)) (f n) (omega arith) in
    let g : i < most n f = rw e at s in
    rw e (most-lowest n f i g))

-- it is asked below n only
pub most-same : (n : ℕ) (f g : ℕ → ℕ) → ((i : ℕ) → i < n → f i ≡ g i) → most n f ≡ most n g
unfolding most
most-same zero f g h = refl
most-same (suc n) f g h =
    let r = most-same n f g (λ i s. h i (omega arith)) in
    let at : f (most n f) ≡ g (most n g) =
    by_cases (dec_lt 0 n)
    (λ s. h (most n f) (omega (arith, most_lt n f s)) ∙ ap g r)
    (λ s. let z : n ≡ 0 = omega arith in first-same n z r) in
    ap₂ (λ (b : Bool) (k : ℕ). cond b n k) (ap₂ ltb at (h n (omega arith))) r
  where
    first-same : (m : ℕ) → m ≡ 0 → most m f ≡ most m g → f (most m f) ≡ g (most m g)
    first-same zero z r = h 0 (omega arith)
    first-same (suc m) z r = absurd (omega arith)

-- ---- those that pass, in order

abbrev pub pick_if : ℕ → Bool → List ℕ
pick_if i b = cond b (i ∷ []) []

length-kept : (i : ℕ) (b : Bool) → length (pick_if i b) ≡ one b
length-kept i true = refl
length-kept i false = refl

pub length-picks : (n : ℕ) (t : ℕ → Bool) → length (picks n t) ≡ count n t
unfolding picks count
length-picks zero t = refl
length-picks (suc n) t = omega (arith, length-append (picks n t) (pick_if n (t n)), length-picks n t, length-kept n (t n))

-- none passes from n on
pub picks-short : (n m : ℕ) (t : ℕ → Bool) → n ≤ m → ((i : ℕ) → n ≤ i → i < m → t i ≡ false) → picks m t ≡ picks n t
unfolding picks
picks-short n zero t h none = let e : n ≡ 0 = omega arith in rw e
picks-short n (suc m) t h none =
    by_cases (ℕ_discrete n (suc m))
    (λ e. rw e)
    (λ e. rw (none m (omega arith) (omega arith)) (append-nil (picks m t) ∙ picks-short n m t (omega arith) (λ i p q. none i p (omega arith))))

pub count-short : (n m : ℕ) (t : ℕ → Bool) → n ≤ m → ((i : ℕ) → n ≤ i → i < m → t i ≡ false) → count m t ≡ count n t
count-short n m t h none = sym (length-picks m t) ∙ ap length (picks-short n m t h none) ∙ length-picks n t

-- the place of one that passes is the number of those before it
pub picks_at : (n : ℕ) (t : ℕ → Bool) (k d : ℕ) → k < n → t k ≡ true → get_or (picks n t) (count k t) d ≡ k
unfolding picks
picks_at zero t k d s e = absurd (omega arith)
picks_at (suc n) t k d s e =
    by_cases (ℕ_discrete k n)
    (λ h. let e' : t n ≡ true = rw h at e in rw (h, e') (get_or_at (picks n t) n [] d (count n t) (length-picks n t)))
    (λ h. get_or-append (picks n t) (pick_if n (t n)) d (count k t) (omega (arith, length-picks n t, count_rise k n t (omega arith) e))
    ∙ picks_at n t k d (omega arith) e)

-- and what stands at a place passes, with that many before it
pub record Picked (n : ℕ) (t : ℕ → Bool) (i k : ℕ) : Type 0 where
  pub below : k < n
  pub passes : t k ≡ true
  pub place : count k t ≡ i

pub picked : (n : ℕ) (t : ℕ → Bool) (i d : ℕ) → i < count n t → Picked n t i (get_or (picks n t) i d)
unfolding picks count
picked zero t i d s = absurd (omega arith)
picked (suc n) t i d s =
    by_cases (dec_lt i (count n t))
    (λ h. let r = picked n t i d h in
    let g = get_or-append (picks n t) (pick_if n (t n)) d i (omega (arith, length-picks n t)) in
    rw g (record { below = omega (arith, r.below); passes = r.passes; place = r.place }))
    (λ h. cases (t n)
    (λ e. let f : count n t ≡ i = omega (arith, ap one e) in
    let g : get_or (picks n t ++ (n ∷ [])) i d ≡ n = get_or_at (picks n t) n [] d i (length-picks n t ∙ f) in
    rw (e, g) (record { below = omega arith; passes = e; place = f }))
    (λ e. absurd (omega (arith, ap one e))))
