-- Where a logical page lies among the extents in use: how many of them end at or below it. The first slot that ends after it comes behind
-- those, and since the ends of sound extents rise, halving the slots finds it.
use Rattle.std.specs.Prelude.{ℕ, zero, suc, ◌+◌, ◌-◌, ◌≤◌, ◌<◌, min, Bool, true, false, ◌≡◌, refl, List, [], ◌∷◌, leb, ltb, length}
use Rattle.std.proofs.Common.{sym, ap, subst, ◌∙◌, arith, le-leb, lt-ltb, le-ltb}
use Rattle.std.proofs.Math.Logic.{by_cases}
use Rattle.std.proofs.Math.Decide.{dec_lt}
use Rattle.std.proofs.lemmas.Bool.{lt-leb}
use Rattle.rules.specs.Counting.{one}
use Rattle.rules.specs.Extents.{end, slot, slots_from}
use Rattle.rules.specs.declared.Extent.{Extent}
use Rattle.laws.specs.Counts.{tally, starts_before, ends_after, tally-start, tally-more}
use Rattle.laws.specs.Cut.{from, from-none}
use Rattle.laws.specs.Slots.{slots-first}
use Rattle.map.specs.Sound.{Rising, rising-order}

-- how many of the extents end at or below logical page l
abbrev pub ends_by : ℕ → List Extent → ℕ
ends_by l es = tally (λ e. leb (end e) l) es

-- the others end after it
pub ends-both : (l : ℕ) (es : List Extent) → ends_by l es + ends_after l es ≡ length es
unfolding tally
ends-both l [] = refl
ends-both l (x ∷ xs) =
    let rest = ends-both l xs in
    by_cases (dec_lt l (end x))
    (λ h. omega (arith, ap one (lt-leb (end x) l h), ap one (lt-ltb l (end x) h)))
    (λ h. omega (arith, ap one (le-leb (end x) l (omega arith)), ap one (le-ltb l (end x) (omega arith))))

-- a test that the slots below k pass, and no other
tally-below : (t : Extent → Bool) (ws : List ℕ) (k u : ℕ) → ((i : ℕ) → i < k → i < u → t (slot ws i) ≡ true) → ((i : ℕ) → k ≤ i → i < u → t (slot ws i) ≡ false)
    → tally t (slots_from ws 0 u) ≡ min k u
tally-below t ws k zero low high = tally-start t ws ∙ omega arith
tally-below t ws k (suc u) low high =
    let s : suc u ≡ u + 1 = omega arith in
    let rest = tally-below t ws k u (λ i a b. low i a (omega arith)) (λ i a b. high i a (omega arith)) in
    let more : tally t (slots_from ws 0 (suc u)) ≡ tally t (slots_from ws 0 u) + one (t (slot ws u)) = ap (λ (m : ℕ). tally t (slots_from ws 0 m)) s ∙ tally-more t ws u in
    by_cases (dec_lt u k)
    (λ a. omega (arith, ap one (low u a (omega arith))))
    (λ a. omega (arith, ap one (high u (omega arith) (omega arith))))

-- ---- the halving

-- what is known when `left` slots from slot i on are left: those before them end at or below l, those behind them end after it
pub record Halved (ws : List ℕ) (u l i left : ℕ) : Type 0 where
  pub inside : i + left ≤ u
  pub low : (j : ℕ) → j < i → end (slot ws j) ≤ l
  pub high : (j : ℕ) → i + left ≤ j → j < u → l < end (slot ws j)

pub halved-start : (ws : List ℕ) (u l : ℕ) → Halved ws u l 0 u
halved-start ws u l = record { inside = omega arith; low = λ j h. absurd (omega arith); high = λ j h t. absurd (omega arith) }

module _ (ws : List ℕ) (u : ℕ) (s : Rising ws u) where
  ends_rise : (i j : ℕ) → i ≤ j → j < u → end (slot ws i) ≤ end (slot ws j)
  ends_rise i j h t =
      by_cases (dec_lt i j)
      (λ g. omega (arith, rising-order ws u s i j g t))
      (λ g. let at : i ≡ j = omega arith in rw at (omega arith))

  module _ (l i left : ℕ) (h : Halved ws u l i left) (m : ℕ) (a : i ≤ m) (b : m < i + left) where
    -- slot m is passed, and so are those before it
    pub halved_up : end (slot ws m) ≤ l → (j rest : ℕ) → j ≡ m + 1 → j + rest ≡ i + left → Halved ws u l j rest
    halved_up t j rest e f = record {
      inside = omega (arith, h.inside);
      low = λ k g. omega (arith, ends_rise k m (omega arith) (omega (arith, h.inside)));
      high = λ k g q. h.high k (omega arith) q;
    }

    -- slot m may be the one, and none behind it is
    pub halved_down : l < end (slot ws m) → (rest : ℕ) → i + rest ≡ m → Halved ws u l i rest
    halved_down t rest e = record {
      inside = omega (arith, h.inside);
      low = h.low;
      high = λ k g q. omega (arith, ends_rise m k (omega arith) q);
    }

pub halved-end : (ws : List ℕ) (u l i left : ℕ) → Halved ws u l i left → left ≡ 0 → i ≡ ends_by l (slots_from ws 0 u)
halved-end ws u l i left h e =
    omega (
      arith,
      h.inside,
      tally-below (λ x. leb (end x) l) ws i u
          (λ j a t. le-leb (end (slot ws j)) l (h.low j a))
          (λ j a t. lt-leb (end (slot ws j)) l (h.high j (omega arith) t)),
    )

-- ---- what the number tells of each slot

module _ (ws : List ℕ) (u l : ℕ) (s : Rising ws u) where
  record Found : Type 0 where
    at : ℕ
    is : Halved ws u l at 0

  -- d slots are left from slot i on
  walk : (d i : ℕ) → i + d ≡ u → Halved ws u l i d → Found
  walk zero i e h = record { at = i; is = h }
  walk (suc d) i e h =
      by_cases (dec_lt l (end (slot ws i)))
      (λ t. record { at = i; is = halved_down ws u s l i (suc d) h i (omega arith) (omega arith) t 0 (omega arith) })
      (λ t. walk d (i + 1) (omega arith) (halved_up ws u s l i (suc d) h i (omega arith) (omega arith) (omega arith) (i + 1) d refl (omega arith)))

  -- slot k is the first that ends after l
  pub ends-first : (k : ℕ) → k ≡ ends_by l (slots_from ws 0 u) → Halved ws u l k 0
  ends-first k e =
      let f = walk u 0 (omega arith) (halved-start ws u l) in
      let same : f.at ≡ k = halved-end ws u l f.at 0 f.is refl ∙ sym e in
      subst (λ (i : ℕ). Halved ws u l i 0) same f.is

  module _ (k : ℕ) (e : k ≡ ends_by l (slots_from ws 0 u)) where
    found : Halved ws u l k 0
    found = ends-first k e

    pub first_below : k ≤ u
    first_below = omega (arith, found.inside)

    ahead : (j : ℕ) → j < k → (slot ws j).logical < l
    ahead j h = omega (arith, found.low j h, (s.pieces j (omega (arith, first_below))).some)

    behind : (j : ℕ) → k < j → j < u → l ≤ (slot ws j).logical
    behind j h t = omega (arith, found.high k (omega arith) (omega arith), rising-order ws u s k j h t)

    -- the slots before it start before l, those behind it do not; and so does it
    pub starts-there : k < u → (slot ws k).logical < l → k + 1 ≡ starts_before l (slots_from ws 0 u)
    starts-there h g =
        omega (
          arith,
          tally-below (λ x. ltb x.logical l) ws (k + 1) u
              (λ j a b. lt-ltb (slot ws j).logical l (by_cases (dec_lt j k) (ahead j) (λ t. let at : j ≡ k = omega arith in rw at g)))
              (λ j a b. le-ltb (slot ws j).logical l (behind j (omega arith) b)),
        )

    -- or it does not
    pub starts-later : (k < u → l ≤ (slot ws k).logical) → k ≡ starts_before l (slots_from ws 0 u)
    starts-later g =
        omega (
          arith,
          first_below,
          tally-below (λ x. ltb x.logical l) ws k u
              (λ j a b. lt-ltb (slot ws j).logical l (ahead j a))
              (λ j a b. le-ltb (slot ws j).logical l (by_cases (dec_lt k j) (λ t. behind j t b) (λ t. let at : j ≡ k = omega arith in rw at (g (omega arith))))),
        )

-- ---- what may be passed over

from_skip : (ws : List ℕ) (u l k : ℕ) → k ≤ u → ((i : ℕ) → i < k → end (slot ws i) ≤ l) → (d i : ℕ) → i + d ≡ k
    → from l (slots_from ws i (u - i)) ≡ from l (slots_from ws k (u - k))
from_skip ws u l k b h zero i e = let at : i ≡ k = omega arith in rw at
from_skip ws u l k b h (suc d) i e =
    ap (from l) (slots-first ws i u (omega arith)) ∙ from-none l (slot ws i) (slots_from ws (i + 1) (u - (i + 1))) (h i (omega arith))
    ∙ from_skip ws u l k b h d (i + 1) (omega arith)

-- the extents from l on are those from l on of the slots from that one on
pub from-there : (ws : List ℕ) (u l k : ℕ) → Rising ws u → k ≡ ends_by l (slots_from ws 0 u) → from l (slots_from ws 0 u) ≡ from l (slots_from ws k (u - k))
from-there ws u l k s e =
    let z : u ≡ u - 0 = omega arith in
    let h = ends-first ws u l s k e in
    ap (λ (m : ℕ). from l (slots_from ws 0 m)) z ∙ from_skip ws u l k (omega (arith, h.inside)) h.low k 0 (omega arith)
