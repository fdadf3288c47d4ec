-- Sound extents in words, slot by slot: what rules 1 and 2 ask of each slot and of each two neighbours, and which slot holds a logical page.
use Prim.Native.Nat.{ℕ, zero, suc, ◌+◌, ◌-◌, ◌%◌, ◌≤◌, ◌<◌}
use Rattle.std.specs.Prelude.{false, ◌≡◌, refl, List, ◌∷◌}
use Rattle.std.proofs.Common.{sym, ◌∙◌}
use Rattle.std.proofs.Math.Path.{ap}
use Rattle.std.proofs.Math.Logic.{by_cases}
use native.Mathlib.Omega.{arith}
use Rattle.std.proofs.Math.Decide.{dec_lt, ℕ_discrete}
use Rattle.rules.specs.Extents.{none, end, lookup, joinable, slot, slots_from}
use Rattle.laws.specs.Rows.{Row, Rows, rows_le, lookup-before, lookup_in, lookup-after}
use Rattle.laws.specs.Runs.{joinable-false, joinable-first}
use Rattle.laws.specs.Norm.{Fits}

-- what is asked of each of u slots and of each two neighbours
pub record Ranked (n hi : ℕ) (ws : List ℕ) (u : ℕ) : Type 0 where
  pub some : (i : ℕ) → i < u → 1 ≤ (slot ws i).count
  pub rising : (i j : ℕ) → j ≡ suc i → j < u → end (slot ws i) ≤ (slot ws j).logical
  pub high : (i : ℕ) → i < u → end (slot ws i) ≤ hi
  pub inside : (i : ℕ) → i < u → (slot ws i).physical % n + (slot ws i).count ≤ n
  pub small : (i : ℕ) → i < u → (slot ws i).physical + (slot ws i).count ≤ none
  pub apart : (i j : ℕ) → j ≡ suc i → j < u → joinable n (slot ws i) (slot ws j) ≡ false

module _ (n hi : ℕ) (ws : List ℕ) where
  -- from slot i on, behind one that ended before (lo, q)
  ranked-from : (u : ℕ) → Ranked n hi ws u → (i m lo q : ℕ) → i + m ≡ u → lo ≤ hi
      → (i < u → lo ≤ (slot ws i).logical)
      → (i < u → (slot ws i).logical ≡ lo → (slot ws i).physical ≡ q → (slot ws i).physical % n ≡ 0)
      → Rows n lo q hi (slots_from ws i m)
  unfolding slots_from
  ranked-from u r i zero lo q e h above apart = h
  ranked-from u r i (suc m) lo q e h above apart = (
    record {
      above = above (omega arith);
      some = r.some i (omega arith);
      inside = r.inside i (omega arith);
      small = r.small i (omega arith);
      apart = apart (omega arith);
    },
    ranked-from u r (i + 1) m _ _ (omega arith) (r.high i (omega arith))
        (λ t. r.rising i (i + 1) (omega arith) t)
        (λ t. joinable-false n (slot ws i) (slot ws (i + 1)) (r.inside i (omega arith)) (r.apart i (i + 1) (omega arith) t)),
  )

  pub ranked-rows : (u : ℕ) → Ranked n hi ws u → Rows n 0 none hi (slots_from ws 0 u)
  ranked-rows u r =
      ranked-from u r 0 u 0 none (omega arith) (omega arith) (λ t. omega arith)
      (λ t a b. absurd (omega (arith, r.small 0 t, r.some 0 t)))

  -- each slot, and each with the next
  pub rows-slot : (m i lo q : ℕ) → Rows n lo q hi (slots_from ws i m) → (j k : ℕ) → j < m → k ≡ i + j → Fits n lo (slot ws k) × (end (slot ws k) ≤ hi)
  unfolding slots_from
  rows-slot zero i lo q h j k s e = absurd (omega arith)
  rows-slot (suc m) i lo q h zero k s e =
      let at : k ≡ i = omega arith in
      let r = h.0 in
      rw at (record { above = r.above; some = r.some; inside = r.inside; small = r.small }, rows_le n hi (slots_from ws (i + 1) m) _ _ h.1)
  rows-slot (suc m) i lo q h (suc j) k s e =
      let r = rows-slot m (i + 1) _ _ h.1 j k (omega arith) (omega arith) in
      let f = r.0 in
      (record { above = omega (arith, h.0.above); some = f.some; inside = f.inside; small = f.small }, r.1)

  pub rows_next : (m i lo q : ℕ) → Rows n lo q hi (slots_from ws i m) → (j a b : ℕ) → suc j < m → a ≡ i + j → b ≡ suc a
      → Row n (end (slot ws a)) ((slot ws a).physical + (slot ws a).count) (slot ws b)
  unfolding slots_from
  rows_next zero i lo q h j a b s e f = absurd (omega arith)
  rows_next (suc zero) i lo q h j a b s e f = absurd (omega arith)
  rows_next (suc (suc m)) i lo q h zero a b s e f =
      let at : a ≡ i = omega arith in
      let next : b ≡ i + 1 = omega arith in
      rw (next, at) h.1.0
  rows_next (suc (suc m)) i lo q h (suc j) a b s e f = rows_next (suc m) (i + 1) _ _ h.1 j a b (omega arith) (omega arith) f

  pub rows-ranked : (u : ℕ) → Rows n 0 none hi (slots_from ws 0 u) → Ranked n hi ws u
  rows-ranked u h = record {
    some = λ i t. (each i t).0.some;
    rising = λ i j e t. (next i j e t).above;
    high = λ i t. (each i t).1;
    inside = λ i t. (each i t).0.inside;
    small = λ i t. (each i t).0.small;
    apart = λ i j e t. joinable-first n (slot ws i) (slot ws j) (each i (omega arith)).0.some (next i j e t).apart;
  }
    where
      each : (i : ℕ) → i < u → Fits n 0 (slot ws i) × (end (slot ws i) ≤ hi)
      each i t = rows-slot u 0 0 none h i i t (omega arith)

      next : (i j : ℕ) → j ≡ suc i → j < u → Row n (end (slot ws i)) ((slot ws i).physical + (slot ws i).count) (slot ws j)
      next i j e t = rows_next u 0 0 none h i i j (omega arith) (omega arith) e

  -- a slot ends before each later one begins
  pub rows-order : (m i lo q : ℕ) → Rows n lo q hi (slots_from ws i m) → (j k a b : ℕ) → j < k → k < m → a ≡ i + j → b ≡ i + k → end (slot ws a) ≤ (slot ws b).logical
  unfolding slots_from
  rows-order zero i lo q h j k a b s t e f = absurd (omega arith)
  rows-order (suc m) i lo q h zero k a b s t e f =
      let at : a ≡ i = omega arith in
      rw at (rows-slot m (i + 1) _ _ h.1 (k - 1) b (omega arith) (omega arith)).0.above
  rows-order (suc m) i lo q h (suc j) k a b s t e f =
      rows-order m (i + 1) _ _ h.1 j (k - 1) a b (omega arith) (omega arith) (omega arith) (omega arith)

  -- no logical page is in two slots
  pub rows-one : (u : ℕ) → Rows n 0 none hi (slots_from ws 0 u) → (i j k m : ℕ) → i < u → j < u → k < (slot ws i).count → m < (slot ws j).count
      → (slot ws i).logical + k ≡ (slot ws j).logical + m → i ≡ j
  rows-one u h i j k m a b c d e =
      by_cases (ℕ_discrete i j) (λ g. g) (λ g. absurd (by_cases (dec_lt i j)
      (λ t. omega (arith, rows-order u 0 0 none h i j i j t b (omega arith) (omega arith)))
      (λ t. omega (arith, rows-order u 0 0 none h j i j i (omega arith) a (omega arith) (omega arith)))))

  -- ---- what they say

  -- page k of slot b
  pub slot-lookup : (m i lo q : ℕ) → Rows n lo q hi (slots_from ws i m) → (j b k : ℕ) → j < m → b ≡ i + j → k < (slot ws b).count
      → lookup (slots_from ws i m) ((slot ws b).logical + k) ≡ (slot ws b).physical + k
  unfolding slots_from
  slot-lookup zero i lo q h j b k s e t = absurd (omega arith)
  slot-lookup (suc m) i lo q h zero b k s e t =
      let at : b ≡ i = omega arith in
      let l = (slot ws b).logical + k in
      ap (λ (x : ℕ). lookup (slot ws x ∷ slots_from ws (i + 1) m) l) (sym at)
      ∙ lookup_in (slot ws b) (slots_from ws (i + 1) m) l (omega arith) (omega arith) ∙ omega arith
  slot-lookup (suc m) i lo q h (suc j) b k s e t =
      lookup-after (slot ws i) (slots_from ws (i + 1) m) ((slot ws b).logical + k)
      (omega (arith, (rows-slot m (i + 1) _ _ h.1 j b (omega arith) (omega arith)).0.above))
      ∙ slot-lookup m (i + 1) _ _ h.1 j b k (omega arith) (omega arith) t

-- logical page l is page `offset` of slot `place`, one of m slots from slot i on, and lies on page p
pub record Held (ws : List ℕ) (i m l p : ℕ) : Type 0 where
  pub place : ℕ
  pub offset : ℕ
  pub low : i ≤ place
  pub high : place < i + m
  pub inside : offset < (slot ws place).count
  pub logical : l ≡ (slot ws place).logical + offset
  pub physical : p ≡ (slot ws place).physical + offset

-- what is no hole is held
pub lookup-held : (ws : List ℕ) (m i l : ℕ) → (lookup (slots_from ws i m) l ≡ none → ⊥) → Held ws i m l (lookup (slots_from ws i m) l)
unfolding slots_from lookup
lookup-held ws zero i l h = absurd (h refl)
lookup-held ws (suc m) i l h =
    let e = slot ws i in
    let es = slots_from ws (i + 1) m in
    by_cases (dec_lt l e.logical)
    (λ a. absurd (h (lookup-before e es l a)))
    (λ a. by_cases (dec_lt l (end e))
    (λ b. record {
      place = i;
      offset = l - e.logical;
      low = omega arith;
      high = omega arith;
      inside = omega arith;
      logical = omega arith;
      physical = lookup_in e es l (omega arith) b;
    })
    (λ b. let at = lookup-after e es l (omega arith) in
    let r = lookup-held ws m (i + 1) l (λ g. h (at ∙ g)) in
    record {
      place = r.place;
      offset = r.offset;
      low = omega (arith, r.low);
      high = omega (arith, r.high);
      inside = r.inside;
      logical = r.logical;
      physical = at ∙ r.physical;
    }))
