-- The extents of a plain table, and that they are the only sound list that says what the table says.
use Rattle.std.specs.Prelude.{ℕ, zero, suc, ◌+◌, ◌-◌, ◌*◌, ◌/◌, ◌%◌, ◌≤◌, ◌<◌, ◌≡◌, refl, List, [], ◌∷◌, true, false, length, get_or, replicate}
use Rattle.std.proofs.Common.{sym, ap, ◌∙◌, arith, mod-lt, div-add-mod', eqb-true, eq-eqb, ne_eqb}
use Rattle.std.proofs.lemmas.Bool.{false≢true}
use Rattle.std.proofs.Math.Logic.{by_cases}
use Rattle.std.proofs.Math.Decide.{dec_lt, ℕ_discrete}
use Rattle.std.proofs.Math.ListN.{get_or-eq_default}
use Rattle.std.proofs.lemmas.List.Edits.{sets}
use Rattle.std.proofs.Math.Seq.{length-sets}
use Rattle.rules.specs.Counting.{tabulate}
use Rattle.rules.specs.Extents.{none, extent, lookup, joinable, join, runs}
use Rattle.rules.specs.declared.Extent.{Extent}
use Rattle.laws.specs.Bools.{cases, and_split, and-join, never}
use Rattle.laws.specs.Cells.{length-tabulate, get_or-tabulate, sets_low, sets_in, sets_high}
use Rattle.laws.specs.Rows.{Row, Rows, rows_at, rows-gap, lookup-before, lookup_in, lookup-after, lookup-low, lookup-word, div_shift, mod_edge}
use Rattle.laws.specs.Unique.{unique}

-- ---- joinable: same block, next logical start, next physical start

pub record Joined (n : ℕ) (a b : Extent) : Type 0 where
  pub block : a.physical / n ≡ b.physical / n
  pub logical : b.logical ≡ a.logical + a.count
  pub physical : b.physical ≡ a.physical + a.count

pub joinable-true : (n : ℕ) (a b : Extent) → joinable n a b ≡ true → Joined n a b
unfolding joinable
joinable-true n a b e =
    let s = and_split _ _ e in
    let t = and_split _ _ s.0 in
    record { block = eqb-true _ _ t.0; logical = eqb-true _ _ t.1; physical = eqb-true _ _ s.1 }

pub joined-true : (n : ℕ) (a b : Extent) → Joined n a b → joinable n a b ≡ true
unfolding joinable
joined-true n a b j =
    and-join _ _ (and-join _ _ (eq-eqb _ _ j.block) (eq-eqb _ _ j.logical)) (eq-eqb _ _ j.physical)

-- in the same block the offset goes on
pub joined-offset : (n : ℕ) (a b : Extent) → Joined n a b → b.physical % n ≡ a.physical % n + a.count
joined-offset n a b j =
    omega (arith, j.physical, ap (λ (x : ℕ). x * n) j.block, div-add-mod' a.physical n, div-add-mod' b.physical n)

-- what goes on where an extent that lies in its block ends, and is not joinable with it, begins a block
pub joinable-false : (n : ℕ) (a b : Extent) → a.physical % n + a.count ≤ n → joinable n a b ≡ false
    → b.logical ≡ a.logical + a.count → b.physical ≡ a.physical + a.count → b.physical % n ≡ 0
joinable-false n a b h e l p =
    by_cases (dec_lt (a.physical % n + a.count) n)
    (λ s. let same = sym (ap (λ (x : ℕ). x / n) p ∙ div_shift n a.physical a.count s) in
    absurd (false≢true (sym e ∙ joined-true n a b (record { block = same; logical = l; physical = p }))))
    (λ s. ap (λ (x : ℕ). x % n) p ∙ mod_edge n a.physical a.count (omega arith))

-- and what begins a block is joinable with nothing
pub joinable-first : (n : ℕ) (a b : Extent) → 0 < a.count → (b.logical ≡ a.logical + a.count → b.physical ≡ a.physical + a.count → b.physical % n ≡ 0)
    → joinable n a b ≡ false
joinable-first n a b s h =
    never (joinable n a b) (λ e. let j = joinable-true n a b e in omega (arith, joined-offset n a b j, h j.logical j.physical))

-- ---- join

pub joined-row : (n lo q : ℕ) (a b : Extent) (lo' q' : ℕ) → Row n lo q a → Row n lo' q' b → Joined n a b → Row n lo q (extent a.logical a.physical (a.count + b.count))
joined-row n lo q a b lo' q' h t j =
    let o = joined-offset n a b j in
    record { above = h.above; some = omega arith; inside = omega arith; small = omega (arith, j.physical); apart = h.apart }

module _ (n : ℕ) (a b : Extent) (bs : List Extent) where
  pub join-joined : joinable n a b ≡ true → join n a (b ∷ bs) ≡ extent a.logical a.physical (a.count + b.count) ∷ bs
  unfolding join
  join-joined e = rw e

  pub join_apart : joinable n a b ≡ false → join n a (b ∷ bs) ≡ a ∷ b ∷ bs
  unfolding join
  join_apart e = rw e

pub join-rows : (n hi : ℕ) (a : Extent) (es : List Extent) (lo q : ℕ) → Row n lo q a → Rows n (a.logical + a.count) none hi es → Rows n lo q hi (join n a es)
unfolding join
join-rows n hi a [] lo q h t = (h, t)
join-rows n hi a (b ∷ bs) lo q h t =
    cases (joinable n a b)
    (λ e. let j = joinable-true n a b e in
    rw (join-joined n a b bs e) (
      joined-row n lo q a b _ _ h t.0 j,
      rows_at n hi bs (omega (arith, j.logical)) (omega (arith, j.physical)) t.1,
    ))
    (λ e. rw (join_apart n a b bs e)
    (h, (record { above = t.0.above; some = t.0.some; inside = t.0.inside; small = t.0.small; apart = joinable-false n a b h.inside e }, t.1)))

-- it says what the two say apart
pub join-lookup : (n : ℕ) (a : Extent) (es : List Extent) (l : ℕ) → lookup (join n a es) l ≡ lookup (a ∷ es) l
unfolding join
join-lookup n a [] l = refl
join-lookup n a (b ∷ bs) l =
    cases (joinable n a b)
    (λ e. let j = joinable-true n a b e in
    let both = extent a.logical a.physical (a.count + b.count) in
    rw (join-joined n a b bs e) (by_cases (dec_lt l a.logical)
    (λ s. lookup-before both bs l s ∙ sym (lookup-before a (b ∷ bs) l s))
    (λ s. by_cases (dec_lt l (a.logical + a.count))
    (λ t. lookup_in both bs l (omega arith) (omega arith) ∙ sym (lookup_in a (b ∷ bs) l (omega arith) t))
    (λ t. by_cases (dec_lt l (b.logical + b.count))
    (λ u. omega (
      arith,
      j.logical,
      j.physical,
      lookup_in both bs l (omega arith) (omega (arith, j.logical)),
      lookup-after a (b ∷ bs) l (omega arith),
      lookup_in b bs l (omega (arith, j.logical)) u,
    ))
    (λ u. omega (arith, lookup-after both bs l (omega (arith, j.logical)), lookup-after a (b ∷ bs) l (omega arith), lookup-after b bs l (omega arith)))))))
    (λ e. rw (join_apart n a b bs e) refl)

pub join-length : (n : ℕ) (a : Extent) (es : List Extent) → length (join n a es) ≤ suc (length es)
unfolding join
join-length n a [] = omega arith
join-length n a (b ∷ bs) = cases (joinable n a b) (λ e. rw e (omega arith)) (λ e. rw e (omega arith))

-- ---- the extents of a table

-- a table's lines are words
abbrev pub WordLines : List ℕ → Type 0
WordLines ps = (i : ℕ) → get_or ps i none ≤ none

pub runs-hole : (n l p : ℕ) (ps : List ℕ) → p ≡ none → runs n l (p ∷ ps) ≡ runs n (suc l) ps
unfolding runs
runs-hole n l p ps e = rw (eq-eqb p none e)

pub runs_holes : (n l m : ℕ) → runs n l (replicate m none) ≡ []
unfolding runs
runs_holes n l zero = refl
runs_holes n l (suc m) = runs-hole n l none (replicate m none) refl ∙ runs_holes n (suc l) m

pub runs-page : (n l p : ℕ) (ps : List ℕ) → (p ≡ none → ⊥) → runs n l (p ∷ ps) ≡ join n (extent l p 1) (runs n (suc l) ps)
unfolding runs
runs-page n l p ps e = rw (ne_eqb p none e)

pub runs-rows : (n : ℕ) → 0 < n → (ps : List ℕ) (l hi : ℕ) → WordLines ps → l + length ps ≡ hi → Rows n l none hi (runs n l ps)
unfolding runs
runs-rows n z [] l hi w e = omega arith
runs-rows n z (p ∷ ps) l hi w e =
    let rest = runs-rows n z ps (suc l) hi (λ i. w (suc i)) (omega arith) in
    by_cases (ℕ_discrete p none)
    (λ d. rw (runs-hole n l p ps d) (rows-gap n hi (runs n (suc l) ps) (suc l) none l none (omega arith) rest))
    (λ d. let s = w 0 in
    let m = mod-lt p z in
    rw (runs-page n l p ps d) (join-rows n hi (extent l p 1) (runs n (suc l) ps) l none
    (record { above = omega arith; some = omega arith; inside = omega arith; small = omega arith; apart = λ a b. absurd (d b) })
    (rows_at n hi (runs n (suc l) ps) (omega arith) refl rest)))

pub runs-lookup : (n : ℕ) → 0 < n → (ps : List ℕ) (l i j : ℕ) → WordLines ps → i ≡ l + j → lookup (runs n l ps) i ≡ get_or ps j none
unfolding lookup runs
runs-lookup n z [] l i j w e = refl
runs-lookup n z (p ∷ ps) l i zero w e =
    let rest = runs-rows n z ps (suc l) (suc l + length ps) (λ i. w (suc i)) (omega arith) in
    by_cases (ℕ_discrete p none)
    (λ d. rw (runs-hole n l p ps d) (lookup-low n _ (runs n (suc l) ps) (suc l) none i rest (omega arith) ∙ sym d))
    (λ d. rw (runs-page n l p ps d) (join-lookup n (extent l p 1) (runs n (suc l) ps) i ∙ lookup_in (extent l p 1) (runs n (suc l) ps) i (omega arith) (omega arith) ∙ omega arith))
runs-lookup n z (p ∷ ps) l i (suc j) w e =
    let rest = runs-lookup n z ps (suc l) i j (λ i. w (suc i)) (omega arith) in
    by_cases (ℕ_discrete p none)
    (λ d. rw (runs-hole n l p ps d) rest)
    (λ d. rw (runs-page n l p ps d) (join-lookup n (extent l p 1) (runs n (suc l) ps) i ∙ lookup-after (extent l p 1) (runs n (suc l) ps) i (omega arith) ∙ rest))

pub runs-length : (n l : ℕ) (t : List ℕ) → length (runs n l t) ≤ length t
unfolding runs
runs-length n l [] = omega arith
runs-length n l (p ∷ ps) =
    by_cases (ℕ_discrete p none)
    (λ e. rw (runs-hole n l p ps e) (omega (arith, runs-length n (suc l) ps)))
    (λ e. rw (runs-page n l p ps e) (omega (arith, join-length n (extent l p 1) (runs n (suc l) ps), runs-length n (suc l) ps)))

-- the bridge: a sound list that says what the table says is the table's
pub encode : (n : ℕ) → 0 < n → (ps : List ℕ) (es : List Extent) → WordLines ps → Rows n 0 none (length ps) es
    → ((l : ℕ) → l < length ps → lookup es l ≡ get_or ps l none) → es ≡ runs n 0 ps
encode n z ps es w h same =
    unique n (length ps) es (runs n 0 ps) 0 none h (runs-rows n z ps 0 (length ps) w (omega arith))
    (λ l a b. same l b ∙ sym (runs-lookup n z ps 0 l l w (omega arith)))

-- ---- words stored into a table

pub sets_words : (vs t : List ℕ) (a : ℕ) → WordLines vs → WordLines t → a + length vs ≤ length t → WordLines (sets t a vs)
sets_words vs t a v w f j =
    by_cases (dec_lt j a)
    (λ g. omega (arith, sets_low none vs t a j g, w j))
    (λ g. by_cases (dec_lt j (a + length vs))
    (λ h. omega (arith, sets_in none vs t a j (j - a) (omega arith) f (omega arith), v (j - a)))
    (λ h. omega (arith, sets_high none vs t a j (omega arith), w j)))

-- a sound list that says what was stored, and elsewhere what the table said, is that of the table with the words stored from line a on
pub encode_sets : (n : ℕ) → 0 < n → (a : ℕ) (vs t : List ℕ) (es : List Extent) → a + length vs ≤ length t → WordLines vs → WordLines t
    → Rows n 0 none (length t) es
    → ((l : ℕ) → l < a → lookup es l ≡ lookup (runs n 0 t) l)
    → ((l : ℕ) → a ≤ l → l < a + length vs → lookup es l ≡ get_or vs (l - a) none)
    → ((l : ℕ) → a + length vs ≤ l → lookup es l ≡ lookup (runs n 0 t) l)
    → es ≡ runs n 0 (sets t a vs)
encode_sets n z a vs t es f v w h left mid right =
    encode n z (sets t a vs) es (sets_words vs t a v w f) (rw length-sets h)
    (λ j s. by_cases (dec_lt j a)
    (λ g. left j g ∙ runs-lookup n z t 0 j j w (omega arith) ∙ sym (sets_low none vs t a j g))
    (λ g. by_cases (dec_lt j (a + length vs))
    (λ d. mid j (omega arith) d ∙ sym (sets_in none vs t a j (j - a) (omega arith) f (omega arith)))
    (λ d. right j (omega arith) ∙ runs-lookup n z t 0 j j w (omega arith) ∙ sym (sets_high none vs t a j (omega arith)))))

-- ---- the table of a list of extents

pub table-words : (n hi : ℕ) (es : List Extent) → Rows n 0 none hi es → (m : ℕ) → WordLines (tabulate m (lookup es))
table-words n hi es h m i =
    by_cases (dec_lt i m)
    (λ a. omega (arith, get_or-tabulate m (lookup es) i none a, lookup-word n hi es 0 none i h))
    (λ a. omega (arith, get_or-eq_default (tabulate m (lookup es)) none {n = i} (omega (arith, length-tabulate m (lookup es)))))

-- the extents of the table of a sound list are that list
pub runs-again : (n : ℕ) → 0 < n → (m : ℕ) (es : List Extent) → Rows n 0 none m es → runs n 0 (tabulate m (lookup es)) ≡ es
runs-again n z m es h =
    sym (encode n z (tabulate m (lookup es)) es (table-words n m es h m) (rw length-tabulate h)
    (λ l s. sym (get_or-tabulate m (lookup es) l none (omega (arith, length-tabulate m (lookup es))))))
