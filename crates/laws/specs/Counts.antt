-- How many extents a map has after a trim or a write, in numbers that are found before anything is touched.
use Rattle.std.specs.Prelude.{ℕ, zero, suc, ◌+◌, ◌-◌, ◌%◌, ◌≤◌, ◌<◌, ◌≡◌, refl, List, [], ◌∷◌, ◌++◌, Bool, false, ltb, length, get_or, replicate}
use Rattle.std.proofs.Common.{sym, ap, ◌∙◌, subst, lt-ltb, le-ltb}
use Rattle.std.proofs.Math.Logic.{by_cases}
use native.Mathlib.Omega.{arith}
use Rattle.std.proofs.Math.Decide.{dec_lt, ℕ_discrete}
use Rattle.std.proofs.Math.ListN.{length-append}
use Rattle.std.proofs.lemmas.List.Edits.{sets}
use Rattle.rules.specs.Counting.{one}
use Rattle.rules.specs.Extents.{none, extent, end, lookup, joinable, join, runs, slot, slots_from}
use Rattle.rules.specs.declared.Extent.{Extent}
use Rattle.laws.specs.Bools.{cases, never}
use Rattle.laws.specs.Sums.{one_le}
use Rattle.laws.specs.Rows.{Rows, rows_le, lookup_in, lookup-after}
use Rattle.laws.specs.Runs.{joinable-true, joinable-first, join-joined, join_apart, join-length, runs-hole, runs-page, runs-rows, runs-lookup, WordLines}
use Rattle.laws.specs.Cut.{below, from, cut, below_none, below-part, below_all, from-none, from-part, from_all, below_rows, from-rows, from-lookup}
use Rattle.laws.specs.Trim.{cut-trims}
use Rattle.laws.specs.Write.{glue, place, write-place}
use Rattle.laws.specs.Slots.{slots-more}

-- ---- the numbers

-- how many extents pass a test
unfoldable pub tally : (Extent → Bool) → List Extent → ℕ
tally t [] = 0
tally t (e ∷ es) = one (t e) + tally t es

-- those that start before logical page a
abbrev pub starts_before : ℕ → List Extent → ℕ
starts_before a es = tally (λ e. ltb e.logical a) es

-- those that end after logical page b begins
abbrev pub ends_after : ℕ → List Extent → ℕ
ends_after b es = tally (λ e. ltb b (end e)) es

-- those with which f, coming next, is joinable: at most the last that starts before f
abbrev pub left_join : ℕ → Extent → List Extent → ℕ
left_join n f es = tally (λ e. joinable n e f) es

tally_append : (t : Extent → Bool) (xs ys : List Extent) → tally t (xs ++ ys) ≡ tally t xs + tally t ys
unfolding tally
tally_append t [] ys = omega arith
tally_append t (x ∷ xs) ys = omega (arith, tally_append t xs ys)

-- a walk over the slots: nothing at first, and one more or none at each slot
pub tally-start : (t : Extent → Bool) (ws : List ℕ) → tally t (slots_from ws 0 0) ≡ 0
unfolding tally slots_from
tally-start t ws = refl

pub tally-more : (t : Extent → Bool) (ws : List ℕ) (u : ℕ) → tally t (slots_from ws 0 (u + 1)) ≡ tally t (slots_from ws 0 u) + one (t (slot ws u))
unfolding tally
tally-more t ws u =
    ap (tally t) (slots-more ws 0 u u (omega arith)) ∙ tally_append t (slots_from ws 0 u) (slot ws u ∷ []) ∙ omega arith

pub tally_le : (t : Extent → Bool) (es : List Extent) → tally t es ≤ length es
unfolding tally
tally_le t [] = omega arith
tally_le t (e ∷ es) = omega (arith, one_le (t e), tally_le t es)

-- ---- which extents pass

pub starts_none : (n hi a : ℕ) (es : List Extent) (lo q : ℕ) → Rows n lo q hi es → a ≤ lo → starts_before a es ≡ 0
unfolding tally
starts_none n hi a [] lo q h s = refl
starts_none n hi a (e ∷ es) lo q h s =
    omega (arith, ap one (le-ltb e.logical a (omega arith)), starts_none n hi a es _ _ h.1 (omega arith))

pub ends-all : (n hi b : ℕ) (es : List Extent) (lo q : ℕ) → Rows n lo q hi es → b ≤ lo → ends_after b es ≡ length es
unfolding tally
ends-all n hi b [] lo q h s = refl
ends-all n hi b (e ∷ es) lo q h s =
    omega (arith, ap one (lt-ltb b (end e) (omega arith)), ends-all n hi b es _ _ h.1 (omega arith))

pub not-next : (n : ℕ) (e f : Extent) → (f.logical ≡ e.logical + e.count → ⊥) → joinable n e f ≡ false
not-next n e f h = never (joinable n e f) (λ j. h (joinable-true n e f j).logical)

joins-none : (n hi : ℕ) (f : Extent) (es : List Extent) (lo q : ℕ) → Rows n lo q hi es → f.logical ≤ lo → left_join n f es ≡ 0
unfolding tally
joins-none n hi f [] lo q h s = refl
joins-none n hi f (e ∷ es) lo q h s =
    omega (arith, ap one (not-next n e f (omega arith)), joins-none n hi f es _ _ h.1 (omega arith))

-- ---- the trim

pub below_length : (n hi a : ℕ) (es : List Extent) (lo q : ℕ) → Rows n lo q hi es → length (below a es) ≡ starts_before a es
unfolding below tally
below_length n hi a [] lo q h = refl
below_length n hi a (e ∷ es) lo q h =
    by_cases (dec_lt e.logical a)
    (λ s. let yes = ap one (lt-ltb e.logical a s) in
    by_cases (dec_lt a (e.logical + e.count))
    (λ t. rw (below-part a e es s t) (omega (arith, starts_none n hi a es _ _ h.1 (omega arith))))
    (λ t. rw (below_all a e es s (omega arith)) (omega (arith, below_length n hi a es _ _ h.1))))
    (λ s. rw (below_none a e es (omega arith))
    (omega (arith, ap one (le-ltb e.logical a (omega arith)), starts_none n hi a es _ _ h.1 (omega arith))))

pub from-length : (n hi b : ℕ) (es : List Extent) (lo q : ℕ) → Rows n lo q hi es → length (from b es) ≡ ends_after b es
unfolding from tally
from-length n hi b [] lo q h = refl
from-length n hi b (e ∷ es) lo q h =
    by_cases (dec_lt b (e.logical + e.count))
    (λ s. let yes = ap one (lt-ltb b (end e) s) in
    let all = ends-all n hi b es _ _ h.1 (omega arith) in
    by_cases (dec_lt e.logical b)
    (λ t. rw (from-part b e es t s) (omega arith))
    (λ t. rw (from_all b e es (omega arith) s) (omega arith)))
    (λ s. rw (from-none b e es (omega arith))
    (omega (arith, ap one (le-ltb b (end e) (omega arith)), from-length n hi b es _ _ h.1)))

pub cut-length : (n hi a b : ℕ) (es : List Extent) → Rows n 0 none hi es → length (cut a b es) ≡ starts_before a es + ends_after b es
unfolding cut
cut-length n hi a b es h =
    omega (arith, length-append (below a es) (from b es), below_length n hi a es 0 none h, from-length n hi b es 0 none h)

-- a trim of c lines from l on
pub trim-count : (n : ℕ) → 0 < n → (l c : ℕ) (t : List ℕ) → 0 < c → l + c ≤ length t → WordLines t
    → length (runs n 0 (sets t l (replicate c none))) ≡ starts_before l (runs n 0 t) + ends_after (l + c) (runs n 0 t)
trim-count n z l c t p f w =
    ap length (sym (cut-trims n z l c t p f w))
    ∙ cut-length n (length t) l (l + c) (runs n 0 t) (runs-rows n z t 0 (length t) w (omega arith))

-- ---- the write: where new extents meet what lies after them

-- the physical page behind the last extent, or q where there is none
unfoldable pub tip : ℕ → List Extent → ℕ
tip q [] = q
tip q (e ∷ es) = tip (e.physical + e.count) es

-- what goes on at lo with page q begins a block
rows_meet : (n hi : ℕ) (es : List Extent) (lo p lo' q : ℕ) → lo' ≤ lo → Rows n lo p hi es → (lookup es lo ≡ q → q % n ≡ 0) → Rows n lo' q hi es
rows_meet n hi [] lo p lo' q g h m = omega arith
rows_meet n hi (e ∷ es) lo p lo' q g h m = (
  record {
    above = omega arith;
    some = h.0.some;
    inside = h.0.inside;
    small = h.0.small;
    apart = λ a b. subst (λ (x : ℕ). x % n ≡ 0) (sym b) (m (lookup_in e es lo (omega arith) (omega arith) ∙ omega arith));
  },
  h.1,
)

rows_chain : (n m hi : ℕ) (xs ys : List Extent) (lo q p : ℕ) → Rows n lo q m xs → Rows n m p hi ys → (lookup ys m ≡ tip q xs → tip q xs % n ≡ 0) → Rows n lo q hi (xs ++ ys)
unfolding tip
rows_chain n m hi [] ys lo q p h t k = rows_meet n hi ys m p lo q h t k
rows_chain n m hi (x ∷ xs) ys lo q p h t k = (h.0, rows_chain n m hi xs ys _ _ p h.1 t k)

-- where nothing is joinable, glue only chains
glue_chain : (n hi : ℕ) (xs ys : List Extent) (lo q : ℕ) → Rows n lo q hi (xs ++ ys) → glue n xs ys ≡ xs ++ ys
unfolding glue join
glue_chain n hi [] ys lo q h = refl
glue_chain n hi (x ∷ xs) ys lo q h = ap (join n x) (glue_chain n hi xs ys _ _ h.1) ∙ first (xs ++ ys) h.1
  where
    first : (zs : List Extent) → Rows n (x.logical + x.count) (x.physical + x.count) hi zs → join n x zs ≡ x ∷ zs
    first [] r = refl
    first (z ∷ zs) r = join_apart n x z zs (joinable-first n x z h.0.some r.0.apart)

-- ---- and what lies before them

joinable-count : (n : ℕ) (x z : Extent) (c : ℕ) → joinable n x (extent z.logical z.physical c) ≡ joinable n x z
unfolding joinable
joinable-count n x z c = refl

-- an extent that was not joinable with z is not joinable with what z has become
pub join-next : (n : ℕ) (x z : Extent) (ys : List Extent) → joinable n x z ≡ false → join n x (join n z ys) ≡ x ∷ join n z ys
unfolding join
join-next n x z [] e = join_apart n x z [] e
join-next n x z (y ∷ ys) e =
    cases (joinable n z y)
    (λ f. rw (join-joined n z y ys f)
    (join_apart n x (extent z.logical z.physical (z.count + y.count)) ys (joinable-count n x z (z.count + y.count) ∙ e)))
    (λ f. rw (join_apart n z y ys f) (join_apart n x z (y ∷ ys) e))

-- each extent joined is one less
glue-length : (n m : ℕ) (xs : List Extent) (f : Extent) (ys : List Extent) (lo q : ℕ) → Rows n lo q m xs → m ≤ f.logical
    → length (glue n xs (f ∷ ys)) + left_join n f xs ≡ length xs + suc (length ys)
unfolding glue tally
glue-length n m [] f ys lo q h s = omega arith
glue-length n m (x ∷ []) f ys lo q h s =
    cases (joinable n x f)
    (λ e. rw (join-joined n x f ys e) (omega (arith, ap one e)))
    (λ e. rw (join_apart n x f ys e) (omega (arith, ap one e)))
glue-length n m (x ∷ z ∷ zs) f ys lo q h s =
    let g = rows_le n m zs _ _ h.1.1 in
    let apart = joinable-first n x z h.0.some h.1.0.apart in
    rw (join-next n x z (glue n zs (f ∷ ys)) apart)
    (omega (arith, ap one (not-next n x f (omega arith)), glue-length n m (z ∷ zs) f ys _ _ h.1 s))

-- the part of an extent that a cut leaves before a is joinable with f only where f's page was a's before
pub below-joins : (n hi a : ℕ) (f : Extent) (es : List Extent) (lo q : ℕ) → Rows n lo q hi es → f.logical ≡ a → (lookup es a ≡ f.physical → f.physical % n ≡ 0)
    → left_join n f (below a es) ≡ left_join n f es
unfolding below tally
below-joins n hi a f [] lo q h d m = refl
below-joins n hi a f (e ∷ es) lo q h d m =
    by_cases (dec_lt a (e.logical + e.count))
    (λ s. let no = ap one (not-next n e f (omega arith)) in
    let rest = joins-none n hi f es _ _ h.1 (omega arith) in
    by_cases (dec_lt e.logical a)
    (λ t. let left = extent e.logical e.physical (a - e.logical) in
    rw (below-part a e es t s) (omega (
      arith,
      ap one (joinable-first n left f (omega arith)
          (λ b c. m (lookup_in e es a (omega arith) s ∙ sym c))),
    )))
    (λ t. rw (below_none a e es (omega arith)) (omega arith)))
    (λ s. rw (below_all a e es (omega arith) (omega arith))
    (omega (arith, below-joins n hi a f es _ _ h.1 d (λ b. m (lookup-after e es a (omega arith) ∙ b)))))

-- ---- the write

-- new extents f, fs for the lines from a up to b. The two hypotheses: the page that a had is not f's, and the page that b has does not go
-- on where the last of them ends; or else it begins a block
module _ (n hi a b : ℕ) (f : Extent) (fs es : List Extent) (e : b ≤ hi) (w : Rows n a none b (f ∷ fs)) (h : Rows n 0 none hi es)
    (at : f.logical ≡ a) (left : lookup es a ≡ f.physical → f.physical % n ≡ 0)
    (right : lookup es b ≡ tip none (f ∷ fs) → tip none (f ∷ fs) % n ≡ 0) where
  pub no-right : glue n (f ∷ fs) (from b es) ≡ f ∷ fs ++ from b es
  no-right =
      glue_chain n hi (f ∷ fs) (from b es) a none
      (rows_chain n b hi (f ∷ fs) (from b es) a none none w (from-rows n hi b es 0 none e h)
      (λ g. right (sym (from-lookup b es b (omega arith)) ∙ g)))

  pub place-length : length (place n a b (f ∷ fs) es) + left_join n f es ≡ starts_before a es + ends_after b es + length (f ∷ fs)
  unfolding place
  place-length =
      rw no-right (omega (
        arith,
        glue-length n a (below a es) f (fs ++ from b es) 0 none (below_rows n hi a es 0 none (omega arith) h) (omega arith),
        below-joins n hi a f es 0 none h at left,
        below_length n hi a es 0 none h,
        from-length n hi b es 0 none h,
        length-append fs (from b es),
      ))

-- the extent that may join: none where none starts before a, else the last that does
pub left-none : (n hi a : ℕ) (f : Extent) (es : List Extent) (lo q : ℕ) → Rows n lo q hi es → f.logical ≡ a → starts_before a es ≡ 0 → left_join n f es ≡ 0
unfolding tally
left-none n hi a f [] lo q h d c = refl
left-none n hi a f (e ∷ es) lo q h d c =
    by_cases (dec_lt e.logical a)
    (λ s. absurd (omega (arith, ap one (lt-ltb e.logical a s))))
    (λ s. omega (arith, ap one (not-next n e f (omega arith)), joins-none n hi f es _ _ h.1 (omega arith)))

pub left-last : (n hi a : ℕ) (f : Extent) (es : List Extent) (lo q i : ℕ) (x : Extent) → Rows n lo q hi es → f.logical ≡ a → starts_before a es ≡ i + 1
    → left_join n f es ≡ one (joinable n (get_or es i x) f)
unfolding tally
left-last n hi a f [] lo q i x h d c = absurd (omega arith)
left-last n hi a f (e ∷ es) lo q zero x h d c =
    by_cases (dec_lt e.logical a)
    (λ s. omega (arith, left-none n hi a f es _ _ h.1 d (omega (arith, ap one (lt-ltb e.logical a s)))))
    (λ s. absurd (omega (arith, ap one (le-ltb e.logical a (omega arith)), starts_none n hi a es _ _ h.1 (omega arith))))
left-last n hi a f (e ∷ es) lo q (suc i) x h d c =
    by_cases (dec_lt (e.logical + e.count) a)
    (λ s. omega (
      arith,
      ap one (not-next n e f (omega arith)),
      left-last n hi a f es _ _ i x h.1 d (omega (arith, ap one (lt-ltb e.logical a (omega arith)))),
    ))
    (λ s. absurd (omega (arith, one_le (ltb e.logical a), starts_none n hi a es _ _ h.1 (omega arith))))

-- ---- the write, on the table

join-tip : (n q : ℕ) (a : Extent) (es : List Extent) → tip q (join n a es) ≡ tip q (a ∷ es)
unfolding tip join
join-tip n q a [] = refl
join-tip n q a (b ∷ bs) =
    cases (joinable n a b)
    (λ e. let at : a.physical + (a.count + b.count) ≡ b.physical + b.count = omega (arith, (joinable-true n a b e).physical) in
    ap (tip q) (join-joined n a b bs e) ∙ ap (λ (x : ℕ). tip x bs) at)
    (λ e. ap (tip q) (join_apart n a b bs e))

-- behind the extents of a table comes the page behind its last line's
pub runs-tip : (n l : ℕ) (ps : List ℕ) (q i : ℕ) → length ps ≡ suc i → (get_or ps i none ≡ none → ⊥) → tip q (runs n l ps) ≡ get_or ps i none + 1
unfolding tip runs join
runs-tip n l [] q i s m = absurd (omega arith)
runs-tip n l (p ∷ []) q zero s m = ap (tip q) (runs-page n l p [] m)
runs-tip n l (p ∷ []) q (suc i) s m = absurd (omega arith)
runs-tip n l (p ∷ r ∷ ps) q zero s m = absurd (omega arith)
runs-tip n l (p ∷ r ∷ ps) q (suc i) s m =
    by_cases (ℕ_discrete p none)
    (λ d. ap (tip q) (runs-hole n l p (r ∷ ps) d) ∙ runs-tip n (suc l) (r ∷ ps) q i (omega arith) m)
    (λ d. ap (tip q) (runs-page n l p (r ∷ ps) d) ∙ join-tip n q (extent l p 1) (runs n (suc l) (r ∷ ps))
    ∙ runs-tip n (suc l) (r ∷ ps) (p + 1) i (omega arith) m)

-- and they begin with its first line's page
pub record Begins (l p : ℕ) (es : List Extent) : Type 0 where
  pub count : ℕ
  pub rest : List Extent
  pub is : es ≡ extent l p count ∷ rest

join_first : (n : ℕ) (a : Extent) (es : List Extent) → Begins a.logical a.physical (join n a es)
unfolding join
join_first n a [] = record { count = a.count; rest = []; is = refl }
join_first n a (b ∷ bs) =
    cases (joinable n a b)
    (λ e. record { count = a.count + b.count; rest = bs; is = join-joined n a b bs e })
    (λ e. record { count = a.count; rest = b ∷ bs; is = join_apart n a b bs e })

pub runs-first : (n l p : ℕ) (ps : List ℕ) → (p ≡ none → ⊥) → Begins l p (runs n l (p ∷ ps))
runs-first n l p ps m =
    let g = join_first n (extent l p 1) (runs n (suc l) ps) in
    record { count = g.count; rest = g.rest; is = runs-page n l p ps m ∙ g.is }

left-same : (n l p c d : ℕ) (es : List Extent) → left_join n (extent l p c) es ≡ left_join n (extent l p d) es
unfolding joinable
left-same n l p c d es = refl

-- the pages v, vs stored from line a on
pub write-count : (n : ℕ) → 0 < n → (a v : ℕ) (vs t : List ℕ) → a + length (v ∷ vs) ≤ length t → WordLines (v ∷ vs) → WordLines t
    → (v ≡ none → ⊥) → (get_or (v ∷ vs) (length vs) none ≡ none → ⊥)
    → (get_or t a none ≡ v → v % n ≡ 0)
    → (get_or t (a + length (v ∷ vs)) none ≡ get_or (v ∷ vs) (length vs) none + 1 → (get_or (v ∷ vs) (length vs) none + 1) % n ≡ 0)
    → length (runs n 0 (sets t a (v ∷ vs))) + left_join n (extent a v 1) (runs n 0 t)
    ≡ starts_before a (runs n 0 t) + ends_after (a + length (v ∷ vs)) (runs n 0 t) + length (runs n a (v ∷ vs))
write-count n z a v vs t f w w' first last left right =
    omega (
      arith,
      ap length (write-place n z a (v ∷ vs) t f w w'),
      left-same n a v 1 g.count es,
      counted new g.is (runs-rows n z (v ∷ vs) a b w refl)
          (λ k. subst (λ (x : ℕ). x % n ≡ 0) (sym behind) (right (sym (say b) ∙ k ∙ behind))),
    )
  where
    b : ℕ
    b = a + length (v ∷ vs)

    es : List Extent
    es = runs n 0 t

    new : List Extent
    new = runs n a (v ∷ vs)

    g : Begins a v new
    g = runs-first n a v vs first

    behind : tip none new ≡ get_or (v ∷ vs) (length vs) none + 1
    behind = runs-tip n a (v ∷ vs) none (length vs) refl last

    say : (l : ℕ) → lookup es l ≡ get_or t l none
    say l = runs-lookup n z t 0 l l w' (omega arith)

    counted : (xs : List Extent) → xs ≡ extent a v g.count ∷ g.rest → Rows n a none b xs → (lookup es b ≡ tip none xs → tip none xs % n ≡ 0)
        → length (place n a b xs es) + left_join n (extent a v g.count) es ≡ starts_before a es + ends_after b es + length xs
    counted xs is =
        subst (λ (ys : List Extent). Rows n a none b ys → (lookup es b ≡ tip none ys → tip none ys % n ≡ 0)
        → length (place n a b ys es) + left_join n (extent a v g.count) es ≡ starts_before a es + ends_after b es + length ys) (sym is)
        (λ r k. place-length n (length t) a b (extent a v g.count) g.rest es f r (runs-rows n z t 0 (length t) w' (omega arith)) refl
        (λ e. left (sym (say a) ∙ e)) k)

-- ---- bounds

from-bound : (b : ℕ) (es : List Extent) → length (from b es) ≤ length es
unfolding from
from-bound b [] = omega arith
from-bound b (e ∷ es) =
    by_cases (dec_lt b (e.logical + e.count))
    (λ s. by_cases (dec_lt e.logical b)
    (λ t. rw (from-part b e es t s) (omega arith))
    (λ t. rw (from_all b e es (omega arith) s) (omega arith)))
    (λ s. rw (from-none b e es (omega arith)) (omega (arith, from-bound b es)))

apart-bound : (a b : ℕ) (es : List Extent) → a ≤ b → length (below a es) + length (from b es) ≤ length es + 1
unfolding below from
apart-bound a b [] s = omega arith
apart-bound a b (e ∷ es) s =
    by_cases (dec_lt e.logical a)
    (λ t. by_cases (dec_lt a (e.logical + e.count))
    (λ u. rw (below-part a e es t u) (omega (arith, from-bound b (e ∷ es))))
    (λ u. rw (below_all a e es t (omega arith), from-none b e es (omega arith)) (omega (arith, apart-bound a b es s))))
    (λ t. rw (below_none a e es (omega arith)) (omega (arith, from-bound b (e ∷ es))))

-- a cut leaves at most one extent more
pub cut-bound : (a b : ℕ) (es : List Extent) → a ≤ b → length (cut a b es) ≤ length es + 1
unfolding cut
cut-bound a b es s = omega (arith, length-append (below a es) (from b es), apart-bound a b es s)

glue_bound : (n : ℕ) (xs ys : List Extent) → length (glue n xs ys) ≤ length xs + length ys
unfolding glue
glue_bound n [] ys = omega arith
glue_bound n (x ∷ xs) ys = omega (arith, join-length n x (glue n xs ys), glue_bound n xs ys)

pub place-bound : (n a b : ℕ) (new es : List Extent) → a ≤ b → length (place n a b new es) ≤ length es + length new + 1
unfolding place
place-bound n a b new es s =
    omega (arith, glue_bound n (below a es) (glue n new (from b es)), glue_bound n new (from b es), apart-bound a b es s)
