-- How many of the logical pages of a range lie in a block: line by line it is a count, and extent by extent a sum.
use Prim.Native.Nat.{ℕ, zero, suc, ◌+◌, ◌-◌, ◌/◌, ◌≤◌, ◌<◌, min, max}
use Rattle.std.specs.Prelude.{Bool, ◌≡◌}
use Rattle.std.proofs.Math.Bool.{true, false, cond}
use Rattle.std.proofs.Math.Path.{refl, ap}
use Rattle.std.proofs.Common.{sym, ◌∙◌, add-one}
use mathlib.Core.List.{List, [], ◌∷◌, ◌++◌}
use Rattle.std.proofs.Math.Logic.{by_cases}
use native.Mathlib.Omega.{arith}
use Rattle.std.proofs.Math.Decide.{dec_lt}
use borrow.Author.Tests.{ne_eqb}
use Rattle.std.proofs.Math.Dec.{eqb}
use Rattle.rules.specs.Counting.{one, sum, count}
use Rattle.rules.specs.Extents.{none, end, lookup, slot, slots_from}
use Rattle.rules.specs.declared.Extent.{Extent}
use Rattle.laws.specs.Sums.{sum_same, sum_add, sum-zero, count-sum, count_same, count_none}
use Rattle.laws.specs.Rows.{Rows, lookup-before, lookup_in, lookup-after, lookup-low, div_shift}
use Rattle.laws.specs.Slots.{slots-more}
use Rattle.laws.specs.Sound.{pages_in}
use Rattle.laws.specs.Ranked.{rows-slot}

-- ---- an extent and a range

-- the logical pages of e from a up to b
unfoldable pub overlap : Extent → ℕ → ℕ → ℕ
overlap e a b = min (end e) b - max e.logical a

-- those of them that lie in block c, for an extent that lies in its block
unfoldable pub in_range : ℕ → ℕ → ℕ → ℕ → Extent → ℕ
in_range n c a b e = cond (eqb (e.physical / n) c) (overlap e a b) 0

module _ (e : Extent) where
  pub overlap-none : (a b : ℕ) → b ≤ a → overlap e a b ≡ 0
  unfolding overlap
  overlap-none a b h = omega arith

  pub overlap-before : (a b : ℕ) → b ≤ e.logical → overlap e a b ≡ 0
  unfolding overlap
  overlap-before a b h = omega arith

  pub overlap-after : (a b : ℕ) → end e ≤ a → overlap e a b ≡ 0
  unfolding overlap
  overlap-after a b h = omega arith

  pub overlap-whole : (a b : ℕ) → a ≤ e.logical → end e ≤ b → overlap e a b ≡ e.count
  unfolding overlap
  overlap-whole a b h k = omega arith

  overlap_in : (l : ℕ) → e.logical ≤ l → l < end e → overlap e l (suc l) ≡ 1
  unfolding overlap
  overlap_in l h k = omega arith

  past : (a b : ℕ) → end e ≤ b → overlap e a b ≡ end e - max e.logical a
  unfolding overlap
  past a b h = omega arith

  up_to : (a b : ℕ) → b ≤ end e → overlap e a b ≡ b - max e.logical a
  unfolding overlap
  up_to a b h = omega arith

  -- one page more
  overlap-more : (a b : ℕ) → a ≤ b → overlap e a (suc b) ≡ overlap e a b + overlap e b (suc b)
  overlap-more a b h =
      by_cases (dec_lt b (end e))
      (λ k. by_cases (dec_lt b e.logical)
      (λ l. omega (arith, overlap-before a (suc b) l, overlap-before a b (omega arith), overlap-before b (suc b) l))
      (λ l. omega (arith, up_to a (suc b) k, up_to a b (omega arith), overlap_in b (omega arith) k)))
      (λ k. omega (arith, past a (suc b) (omega arith), past a b (omega arith), overlap-after b (suc b) (omega arith)))

-- ---- a number of each extent, added up

unfoldable pub total : (Extent → ℕ) → List Extent → ℕ
total f [] = 0
total f (e ∷ es) = f e + total f es

total_append : (f : Extent → ℕ) (xs ys : List Extent) → total f (xs ++ ys) ≡ total f xs + total f ys
unfolding total
total_append f [] ys = omega arith
total_append f (x ∷ xs) ys = omega (arith, total_append f xs ys)

pub total-slots : (f : Extent → ℕ) (ws : List ℕ) (u : ℕ) → total f (slots_from ws 0 u) ≡ sum u (λ i. f (slot ws i))
unfolding total sum slots_from
total-slots f ws zero = refl
total-slots f ws (suc u) =
    let at : slots_from ws 0 (suc u) ≡ slots_from ws 0 u ++ slot ws u ∷ [] = rw (add-one u) at (slots-more ws 0 u u (omega arith)) in
    ap (total f) at ∙ total_append f (slots_from ws 0 u) (slot ws u ∷ []) ∙ omega (arith, total-slots f ws u)

-- ---- the lines of a range

overlap-sum : (e : Extent) (a m : ℕ) → sum m (λ i. overlap e (a + i) (suc (a + i))) ≡ overlap e a (a + m)
unfolding sum
overlap-sum e a zero = sym (overlap-none e a (a + 0) (omega arith))
overlap-sum e a (suc m) =
    let at : a + suc m ≡ suc (a + m) = omega arith in
    omega (arith, overlap-sum e a m, overlap-more e a (a + m) (omega arith), ap (overlap e a) at)

range-sum : (n c : ℕ) (e : Extent) (a m : ℕ) → sum m (λ i. in_range n c (a + i) (suc (a + i)) e) ≡ in_range n c a (a + m) e
unfolding in_range
range-sum n c e a m = go (eqb (e.physical / n) c)
  where
    go : (t : Bool) → sum m (λ i. cond t (overlap e (a + i) (suc (a + i))) 0) ≡ cond t (overlap e a (a + m)) 0
    go true = overlap-sum e a m
    go false = sum-zero m (λ i. 0) (λ i s. refl)

module _ (n hi c : ℕ) (o : none / n ≡ c → ⊥) where
  hole-out : (x : ℕ) → x ≡ none → one (eqb (x / n) c) ≡ 0
  hole-out x e = ap one (ne_eqb (x / n) c (λ g. o (sym (ap (λ (y : ℕ). y / n) e) ∙ g)))

  -- a line is in the first extent or in the others
  line : (e : Extent) (es : List Extent) (lo q l : ℕ) → Rows n lo q hi (e ∷ es)
      → one (eqb (lookup (e ∷ es) l / n) c) ≡ in_range n c l (suc l) e + one (eqb (lookup es l / n) c)
  unfolding in_range
  line e es lo q l h =
      by_cases (dec_lt l (end e))
      (λ s. let rest = hole-out (lookup es l) (lookup-low n hi es _ _ l h.1 s) in
      by_cases (dec_lt l e.logical)
      (λ t. omega (arith, hole-out (lookup (e ∷ es) l) (lookup-before e es l t), out t (eqb (e.physical / n) c)))
      (λ t. omega (arith, same (omega arith) s, inside (omega arith) s (eqb (e.physical / n) c))))
      (λ s. omega (arith, ap (λ (x : ℕ). one (eqb (x / n) c)) (lookup-after e es l (omega arith)), behind (omega arith) (eqb (e.physical / n) c)))
    where
      out : l < e.logical → (t : Bool) → cond t (overlap e l (suc l)) 0 ≡ 0
      out s true = overlap-before e l (suc l) s
      out s false = refl

      behind : end e ≤ l → (t : Bool) → cond t (overlap e l (suc l)) 0 ≡ 0
      behind s true = overlap-after e l (suc l) s
      behind s false = refl

      inside : e.logical ≤ l → l < end e → (t : Bool) → cond t (overlap e l (suc l)) 0 ≡ one t
      inside s k true = overlap_in e l s k
      inside s k false = refl

      same : e.logical ≤ l → l < end e → one (eqb (lookup (e ∷ es) l / n) c) ≡ one (eqb (e.physical / n) c)
      same s k =
          ap (λ (x : ℕ). one (eqb (x / n) c)) (lookup_in e es l s k)
          ∙ ap (λ (x : ℕ). one (eqb x c)) (div_shift n e.physical (l - e.logical) (omega (arith, h.0.inside)))

  -- of m lines from a on, those in block c are the pages in block c that the extents have there
  pub lines-in_range : (es : List Extent) (lo q : ℕ) → Rows n lo q hi es → (a m : ℕ) → count m (λ i. eqb (lookup es (a + i) / n) c) ≡ total (in_range n c a (a + m)) es
  unfolding lookup total
  lines-in_range [] lo q h a m = count_none m (λ i. eqb (none / n) c) (λ i s. ne_eqb (none / n) c o)
  lines-in_range (e ∷ es) lo q h a m =
      let own : ℕ → ℕ = λ i. in_range n c (a + i) (suc (a + i)) e in
      let rest : ℕ → ℕ = λ i. one (eqb (lookup es (a + i) / n) c) in
      omega (
        arith,
        count-sum m (λ i. eqb (lookup (e ∷ es) (a + i) / n) c),
        sum_same m (λ i. one (eqb (lookup (e ∷ es) (a + i) / n) c)) (λ i. own i + rest i) (λ i s. line e es lo q (a + i) h),
        sum_add m own rest,
        range-sum n c e a m,
        count-sum m (λ i. eqb (lookup es (a + i) / n) c),
        lines-in_range es _ _ h.1 a m,
      )

  pub in_range-slots : (ws : List ℕ) (u lo q : ℕ) → Rows n lo q hi (slots_from ws 0 u) → (a m : ℕ)
      → count m (λ i. eqb (lookup (slots_from ws 0 u) (a + i) / n) c) ≡ sum u (λ i. in_range n c a (a + m) (slot ws i))
  in_range-slots ws u lo q h a m = lines-in_range (slots_from ws 0 u) lo q h a m ∙ total-slots (in_range n c a (a + m)) ws u

  -- all lines: rule 5
  pub in_slots : (ws : List ℕ) (u : ℕ) → Rows n 0 none hi (slots_from ws 0 u) → count hi (λ l. eqb (lookup (slots_from ws 0 u) l / n) c) ≡ sum u (pages_in ws n c)
  unfolding in_range pages_in
  in_slots ws u h =
      count_same hi (λ l. eqb (lookup (slots_from ws 0 u) l / n) c) (λ l. eqb (lookup (slots_from ws 0 u) (0 + l) / n) c)
      (λ l t. let at : l ≡ 0 + l = omega arith in ap (λ (x : ℕ). eqb (lookup (slots_from ws 0 u) x / n) c) at)
      ∙ in_range-slots ws u 0 none h 0 hi
      ∙ sum_same u (λ i. in_range n c 0 (0 + hi) (slot ws i)) (pages_in ws n c)
      (λ i t. ap (λ (x : ℕ). cond (eqb ((slot ws i).physical / n) c) x 0)
      (overlap-whole (slot ws i) 0 (0 + hi) (omega arith) (omega (arith, (rows-slot n hi ws u 0 0 none h i i t (omega arith)).1))))
