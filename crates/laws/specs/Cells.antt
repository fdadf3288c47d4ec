-- Runs of stores read by index, and a block's cells copied to another block and then swept.
use Prim.Native.Nat.{ℕ, zero, suc, ◌+◌, ◌-◌, ◌*◌, ◌≤◌, ◌<◌}
use Rattle.std.specs.Prelude.{◌≡◌, Bool, false, length, replicate}
use Rattle.std.proofs.Math.Path.{refl, ap}
use Rattle.std.proofs.Common.{sym, ap₂, ◌∙◌, suc-mul, mul-le-mul_right, get_or-set_same}
use mathlib.Core.List.{List, [], ◌∷◌, ◌++◌, map}
use Rattle.std.proofs.Math.Logic.{by_cases}
use native.Mathlib.Omega.{arith}
use Rattle.std.proofs.Math.Decide.{dec_lt}
use Rattle.std.proofs.Math.ListN.{get_or, set, length-set, length-map, length-replicate, get_or-replicate}
use Rattle.std.proofs.lemmas.List.Edits.{sets}
use Rattle.std.proofs.Math.Seq.{length-sets, get_or-set_other}
use Rattle.rules.specs.Counting.{one, count, tabulate}
use Rattle.rules.specs.Reclaim.{copied}
use Rattle.laws.specs.Sums.{count_same, count_none, count_change, count-first}

pub block_le : (n b c : ℕ) → b < c → b * n + n ≤ c * n
block_le n b c h = omega (arith, suc-mul b n, mul-le-mul_right {m = suc b} {n = c} n h)

-- a page of one block is not in another
pub far : (n b c o : ℕ) → (b ≡ c → ⊥) → o < n → c * n ≤ b * n + o → b * n + o < c * n + n → ⊥
far n b c o u h p q =
    by_cases (dec_lt b c) (λ k. omega (arith, block_le n b c k)) (λ k. omega (arith, block_le n c b (omega arith)))

pub map_same : {A B : Type 0} (f g : B → A) (y : B) (xs : List B) → ((i : ℕ) → i < length xs → f (get_or xs i y) ≡ g (get_or xs i y)) → map f xs ≡ map g xs
map_same f g y [] h = refl
map_same {A} f g y (x ∷ xs) h = ap₂ (λ (a : A) (r : List A). a ∷ r) (h 0 (omega arith)) (map_same f g y xs (λ i s. h (suc i) (omega arith)))

pub length-tabulate : {A : Type 0} (n : ℕ) (f : ℕ → A) → length (tabulate n f) ≡ n
unfolding tabulate
length-tabulate zero f = refl
length-tabulate (suc n) f = ap suc (length-tabulate n (λ i. f (suc i)))

pub get_or-tabulate : {A : Type 0} (n : ℕ) (f : ℕ → A) (i : ℕ) (z : A) → i < n → get_or (tabulate n f) i z ≡ f i
unfolding tabulate
get_or-tabulate zero f i z h = absurd (omega arith)
get_or-tabulate (suc n) f zero z h = refl
get_or-tabulate (suc n) f (suc i) z h = get_or-tabulate n (λ j. f (suc j)) i z (omega arith)

pub tabulate-same : {A : Type 0} (n : ℕ) (f g : ℕ → A) → ((i : ℕ) → i < n → f i ≡ g i) → tabulate n f ≡ tabulate n g
unfolding tabulate
tabulate-same zero f g h = refl
tabulate-same {A} (suc n) f g h =
    ap₂ (λ (a : A) (r : List A). a ∷ r) (h 0 (omega arith)) (tabulate-same n (λ i. f (suc i)) (λ i. g (suc i)) (λ i s. h (suc i) (omega arith)))

pub tabulate_append : {A : Type 0} (n m k : ℕ) (f : ℕ → A) → k ≡ n + m → tabulate k f ≡ tabulate n f ++ tabulate m (λ i. f (n + i))
unfolding tabulate
tabulate_append zero m k f e =
    let at : k ≡ m = omega arith in
    ap (λ (x : ℕ). tabulate x f) at ∙ tabulate-same m f (λ i. f (0 + i)) (λ i s. let g : i ≡ 0 + i = omega arith in ap f g)
tabulate_append (suc n) m zero f e = absurd (omega arith)
tabulate_append {A} (suc n) m (suc k) f e =
    ap (λ (r : List A). f 0 ∷ r) (tabulate_append n m k (λ i. f (suc i)) (omega arith)
    ∙ ap (λ (r : List A). tabulate n (λ i. f (suc i)) ++ r) (tabulate-same m (λ i. f (suc (n + i))) (λ i. f (suc n + i))
    (λ i s. let g : suc (n + i) ≡ suc n + i = omega arith in ap f g)))

module _ {A : Type 0} (z : A) where
  pub sets_low : (vs l : List A) (i j : ℕ) → j < i → get_or (sets l i vs) j z ≡ get_or l j z
  sets_low [] l i j h = refl
  sets_low (v ∷ vs) l i j h = sets_low vs (set l i v) (suc i) j (omega arith) ∙ get_or-set_other l i j v z (omega arith)

  pub sets_in : (vs l : List A) (i j m : ℕ) → m < length vs → i + length vs ≤ length l → j ≡ i + m → get_or (sets l i vs) j z ≡ get_or vs m z
  sets_in [] l i j m h f e = absurd (omega arith)
  sets_in (v ∷ vs) l i j zero h f e =
      sets_low vs (set l i v) (suc i) j (omega arith) ∙ ap (λ (x : ℕ). get_or (set l i v) x z) (omega arith) ∙ get_or-set_same l i v z (omega arith)
  sets_in (v ∷ vs) l i j (suc m) h f e = sets_in vs (set l i v) (suc i) j m (omega arith) (omega (arith, length-set l i v)) (omega arith)

  pub sets_high : (vs l : List A) (i j : ℕ) → i + length vs ≤ j → get_or (sets l i vs) j z ≡ get_or l j z
  sets_high [] l i j h = refl
  sets_high (v ∷ vs) l i j h = sets_high vs (set l i v) (suc i) j (omega arith) ∙ get_or-set_other l i j v z (omega arith)

  pub sets_other : (vs l : List A) (i j : ℕ) → (i ≤ j → j < i + length vs → ⊥) → get_or (sets l i vs) j z ≡ get_or l j z
  sets_other vs l i j h =
      by_cases (dec_lt j i)
      (λ a. sets_low vs l i j a)
      (λ a. by_cases (dec_lt j (i + length vs)) (λ b. absurd (h (omega arith) b)) (λ b. sets_high vs l i j (omega arith)))

  -- what g tells at each index is the stores where they lie and the list elsewhere
  pub sets_tells : (g : ℕ → A) (vs l : List A) (i : ℕ) → i + length vs ≤ length l
      → ((m j : ℕ) → m < length vs → j ≡ i + m → g j ≡ get_or vs m z)
      → ((j : ℕ) → (i ≤ j → j < i + length vs → ⊥) → g j ≡ get_or l j z)
      → (j : ℕ) → g j ≡ get_or (sets l i vs) j z
  sets_tells g vs l i f stored other j =
      let out : (i ≤ j → j < i + length vs → ⊥) → g j ≡ get_or (sets l i vs) j z = λ h. other j h ∙ sym (sets_other vs l i j h) in
      by_cases (dec_lt j i)
      (λ a. out (λ b c. omega arith))
      (λ a. by_cases (dec_lt j (i + length vs))
      (λ b. stored (j - i) j (omega arith) (omega arith) ∙ sym (sets_in vs l i j (j - i) (omega arith) f (omega arith)))
      (λ b. out (λ c d. omega arith)))

  pub map_at : {B : Type 0} (f : B → A) (xs : List B) (i : ℕ) (y : B) → i < length xs → get_or (map f xs) i z ≡ f (get_or xs i y)
  map_at f [] i y h = absurd (omega arith)
  map_at f (x ∷ xs) zero y h = refl
  map_at f (x ∷ xs) (suc i) y h = map_at f xs i y (omega arith)

  pub replicate-at : (n i : ℕ) → get_or (replicate n z) i z ≡ z
  replicate-at zero i = refl
  replicate-at (suc n) zero = refl
  replicate-at (suc n) (suc i) = replicate-at n i

  -- ---- how many cells pass a test, before and after stores

  pub count_set : (t : A → Bool) (l : List A) (i : ℕ) (v : A) → i < length l
      → count (length (set l i v)) (λ k. t (get_or (set l i v) k z)) + one (t (get_or l i z)) ≡ count (length l) (λ k. t (get_or l k z)) + one (t v)
  count_set t l i v h =
      rw (length-set l i v) (count_change (length l) (λ k. t (get_or (set l i v) k z)) (λ k. t (get_or l k z)) i h (λ k a e. ap t (get_or-set_other l i k v z e))
      ∙ ap (λ (x : A). count (length l) (λ k. t (get_or l k z)) + one (t x)) (get_or-set_same l i v z h))

  pub count_sets : (t : A → Bool) (vs l : List A) (i : ℕ) → i + length vs ≤ length l
      → count (length (sets l i vs)) (λ k. t (get_or (sets l i vs) k z)) + count (length vs) (λ k. t (get_or l (i + k) z))
      ≡ count (length l) (λ k. t (get_or l k z)) + count (length vs) (λ k. t (get_or vs k z))
  unfolding count
  count_sets t [] l i h = refl
  count_sets t (v ∷ vs) l i h =
      let l' = set l i v in
      let first : i + 0 ≡ i = omega arith in
      let rest = count_same (length vs) (λ k. t (get_or l' (suc i + k) z)) (λ k. t (get_or l (i + suc k) z))
      (λ k a. let e : suc i + k ≡ i + suc k = omega arith in
      ap t (get_or-set_other l i (suc i + k) v z (omega arith) ∙ ap (λ (x : ℕ). get_or l x z) e)) in
      omega (
        arith,
        count-first (length vs) (λ k. t (get_or l (i + k) z)),
        ap (λ (x : ℕ). one (t (get_or l x z))) first,
        rest,
        count-first (length vs) (λ k. t (get_or (v ∷ vs) k z)),
        count_set t l i v (omega arith),
        count_sets t vs l' (suc i) (omega (arith, length-set l i v)),
      )

  -- an empty cell fails the test
  pub count_wiped : (t : A → Bool) → t z ≡ false → (n : ℕ) (l : List A) (i : ℕ) → i + n ≤ length l
      → count (length (sets l i (replicate n z))) (λ k. t (get_or (sets l i (replicate n z)) k z)) + count n (λ k. t (get_or l (i + k) z)) ≡ count (length l) (λ k. t (get_or l k z))
  count_wiped t e n l i h =
      let vs = replicate n z in
      let m = length-replicate n z in
      omega (
        arith,
        count_sets t vs l i (omega arith),
        ap (λ (x : ℕ). count x (λ k. t (get_or l (i + k) z))) m,
        count_none (length vs) (λ k. t (get_or vs k z)) (λ k a. ap t (replicate-at n k) ∙ e),
      )

  -- ---- cells copied one after the other

  unfoldable pub copies_into : ℕ → List ℕ → List A → List A
  copies_into a [] xs = xs
  copies_into a (p ∷ ps) xs = copies_into (suc a) ps (set xs a (get_or xs p z))

  -- no cell is read after it was stored
  pub copies-copied : (ps : List ℕ) (a : ℕ) (xs : List A)
      → ((i : ℕ) → i < length ps → a ≤ get_or ps i 0 → get_or ps i 0 < a + length ps → ⊥) → copies_into a ps xs ≡ copied z a ps xs
  unfolding copies_into copied
  copies-copied [] a xs h = refl
  copies-copied (p ∷ ps) a xs h =
      let xs' = set xs a (get_or xs p z) in
      copies-copied ps (suc a) xs' (λ i s b c. h (suc i) (omega arith) (omega arith) (omega arith))
      ∙ ap (sets xs' (suc a)) (map_same (λ q. get_or xs' q z) (λ q. get_or xs q z) 0 ps
      (λ i s. get_or-set_other xs a (get_or ps i 0) (get_or xs p z) z (λ e. h (suc i) (omega arith) (omega arith) (omega arith))))

  -- each cell is empty when it is stored to
  abbrev pub Blanks : ℕ → List ℕ → List A → Type 0
  Blanks a [] xs = Unit {0}
  Blanks a (p ∷ ps) xs = (a < length xs) × (get_or xs a z ≡ z) × Blanks (suc a) ps (set xs a (get_or xs p z))

  pub blanks : (ps : List ℕ) (a : ℕ) (xs : List A) → a + length ps ≤ length xs → ((j : ℕ) → a ≤ j → j < a + length ps → get_or xs j z ≡ z) → Blanks a ps xs
  blanks [] a xs f h = tt
  blanks (p ∷ ps) a xs f h = (
    omega arith,
    h a (omega arith) (omega arith),
    blanks ps (suc a) (set xs a (get_or xs p z)) (omega (arith, length-set xs a (get_or xs p z)))
        (λ j s t. get_or-set_other xs a j (get_or xs p z) z (omega arith) ∙ h j (omega arith) (omega arith)),
  )

  pub length-copied : (a : ℕ) (ps : List ℕ) (xs : List A) → length (copied z a ps xs) ≡ length xs
  unfolding copied
  length-copied a ps xs = length-sets xs a (map (λ p. get_or xs p z) ps)

  -- then block v swept; n pages a block
  unfoldable pub swept : ℕ → ℕ → ℕ → List ℕ → List A → List A
  swept n r v ps xs = sets (copied z (r * n) ps xs) (v * n) (replicate n z)

  pub length-swept : (n r v : ℕ) (ps : List ℕ) (xs : List A) → length (swept n r v ps xs) ≡ length xs
  unfolding swept
  length-swept n r v ps xs = length-sets (copied z (r * n) ps xs) (v * n) (replicate n z) ∙ length-copied (r * n) ps xs

  module _ (n r v : ℕ) (ps : List ℕ) (xs : List A) (m : length ps ≤ n) (f : r * n + n ≤ length xs) (g : v * n + n ≤ length xs) (e : v ≡ r → ⊥) where
    wiped_other : (c o : ℕ) → (c ≡ v → ⊥) → o < n → get_or (swept n r v ps xs) (c * n + o) z ≡ get_or (copied z (r * n) ps xs) (c * n + o) z
    unfolding swept
    wiped_other c o u h =
        sets_other (replicate n z) (copied z (r * n) ps xs) (v * n) (c * n + o) (λ p q. far n c v o u h p (omega (arith, length-replicate n z)))

    pub swept_in : (i : ℕ) (y : ℕ) → i < length ps → get_or (swept n r v ps xs) (r * n + i) z ≡ get_or xs (get_or ps i y) z
    unfolding copied
    swept_in i y h =
        let w = length-map ps (λ p. get_or xs p z) in
        wiped_other r i (λ q. e (sym q)) (omega arith)
        ∙ sets_in (map (λ p. get_or xs p z) ps) xs (r * n) (r * n + i) i (omega arith) (omega arith) refl
        ∙ map_at (λ p. get_or xs p z) ps i y h

    pub swept-rest : (i : ℕ) → length ps ≤ i → i < n → get_or (swept n r v ps xs) (r * n + i) z ≡ get_or xs (r * n + i) z
    unfolding copied
    swept-rest i h k =
        wiped_other r i (λ q. e (sym q)) k
        ∙ sets_other (map (λ p. get_or xs p z) ps) xs (r * n) (r * n + i) (λ p q. omega (arith, length-map ps (λ p. get_or xs p z)))

    pub swept_gone : (o : ℕ) → o < n → get_or (swept n r v ps xs) (v * n + o) z ≡ z
    unfolding swept
    swept_gone o h =
        let w = length-replicate n z in
        sets_in (replicate n z) (copied z (r * n) ps xs) (v * n) (v * n + o) o (omega arith) (omega (arith, length-copied (r * n) ps xs)) refl
        ∙ get_or-replicate n o z z h

    pub swept-other : (c o : ℕ) → (c ≡ v → ⊥) → (c ≡ r → ⊥) → o < n → get_or (swept n r v ps xs) (c * n + o) z ≡ get_or xs (c * n + o) z
    unfolding copied
    swept-other c o u t h =
        wiped_other c o u h
        ∙ sets_other (map (λ p. get_or xs p z) ps) xs (r * n) (c * n + o) (λ p q. far n c r o t h p (omega (arith, length-map ps (λ p. get_or xs p z))))
