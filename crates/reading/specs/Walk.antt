-- A walk over the slots that finds what a read answers: the pieces of one slot, how far the answer then reaches, and that the pieces of
-- the slots, one after the other, are the clipped extents with the holes between them.
use Rattle.std.specs.Prelude.{ℕ, zero, suc, ◌+◌, ◌-◌, ◌*◌, ◌≤◌, ◌<◌, min, max, ◌≡◌, refl, cond, ltb, length}
use Rattle.std.proofs.Common.{sym, ap₂, ◌∙◌, lt-ltb, le-ltb, length-append}
use Rattle.std.proofs.Math.Path.{ap}
use mathlib.Core.List.{List, [], ◌∷◌, ◌++◌}
use Rattle.std.proofs.Math.Logic.{by_cases}
use native.Mathlib.Omega.{arith}
use Rattle.std.proofs.Math.Decide.{dec_lt}
use Rattle.rules.specs.Extents.{none, extent, end, slot, slots_from}
use Rattle.rules.specs.Lent.{Lent, in_use}
use Rattle.rules.specs.Device.{device_of}
use Rattle.rules.specs.Read.{with_hole, with_holes, found}
use Rattle.rules.specs.declared.Extent.{Extent}
use Rattle.laws.specs.Bools.{cases}
use Rattle.laws.specs.Unique.{extent_path}
use Rattle.laws.specs.Cut.{below, from, cut, below_none, below-part, below_all, from-none, from-part, from_all}
use Rattle.laws.specs.Slots.{slots-first, slots_length}
use Rattle.laws.specs.Counts.{cut-bound}
use Rattle.laws.specs.Sound.{Shaped, SoundState}
use Rattle.laws.specs.Read.{found-window}
use Rattle.laws.specs.States.{device-lines, extents-in_use, state-storable, table-lines}
use Rattle.map.specs.Sound.{Rising}
use Rattle.map.specs.Halved.{ends_by, ends-first, from-there}

-- the extents from logical page l up to e, each clipped, and each maximal hole
abbrev pub between : ℕ → ℕ → List Extent → List Extent
between l e es = with_holes l e (below e (from l es))

-- ---- one extent, where the answer has come to pos

-- where its piece starts
abbrev pub starts : ℕ → Extent → ℕ
starts pos x = max pos x.logical

-- how far the answer then reaches
abbrev pub reaches : ℕ → ℕ → Extent → ℕ
reaches pos e x = max pos (min e (end x))

abbrev pub clipped : ℕ → ℕ → Extent → Extent
clipped pos e x = extent (starts pos x) (x.physical + (starts pos x - x.logical)) (reaches pos e x - starts pos x)

-- its pieces: none where it ends before pos
unfoldable pub tells : ℕ → ℕ → Extent → List Extent
tells pos e x = cond (ltb pos (end x)) (with_hole pos (starts pos x) (clipped pos e x ∷ [])) []

-- ---- holes

pub hole_append : (a b : ℕ) (xs ys : List Extent) → with_hole a b (xs ++ ys) ≡ with_hole a b xs ++ ys
unfolding with_hole
hole_append a b xs ys = cases (ltb a b) (λ e. rw e) (λ e. rw e)

pub no-hole : (a b : ℕ) (xs : List Extent) → b ≤ a → with_hole a b xs ≡ xs
unfolding with_hole
no-hole a b xs h = rw (le-ltb a b h)

pub some-hole : (a b : ℕ) (xs : List Extent) → a < b → with_hole a b xs ≡ extent a none (b - a) ∷ xs
unfolding with_hole
some-hole a b xs h = rw (lt-ltb a b h)

-- ---- the first extent of a list

below-from : (e : ℕ) (xs : List Extent) → below e (from e xs) ≡ []
unfolding below from
below-from e [] = refl
below-from e (x ∷ xs) =
    by_cases (dec_lt e (end x))
    (λ s. by_cases (dec_lt x.logical e)
    (λ t. ap (below e) (from-part e x xs t s) ∙ below_none e _ xs (omega arith))
    (λ t. ap (below e) (from_all e x xs (omega arith) s) ∙ below_none e x xs (omega arith)))
    (λ s. ap (below e) (from-none e x xs (omega arith)) ∙ below-from e xs)

-- nothing is left where the answer has come to e, or the extent starts there
pub between-end : (pos e : ℕ) (x : Extent) (xs : List Extent) → 0 < x.count → pos ≤ e → e ≤ starts pos x → between pos e (x ∷ xs) ≡ with_hole pos e []
unfolding with_holes below
between-end pos e x xs c h s =
    by_cases (dec_lt pos e)
    (λ t. ap (with_holes pos e) (ap (below e) (from_all pos x xs (omega arith) (omega arith)) ∙ below_none e x xs (omega arith)))
    (λ t. let at : pos ≡ e = omega arith in ap (λ (k : ℕ). with_holes pos e (below e (from k (x ∷ xs)))) at ∙ ap (with_holes pos e) (below-from e (x ∷ xs)))

pub between_none : (pos e : ℕ) → between pos e [] ≡ with_hole pos e []
unfolding with_holes below from
between_none pos e = refl

pub tells_none : (pos e : ℕ) (x : Extent) → end x ≤ pos → tells pos e x ≡ []
unfolding tells
tells_none pos e x h = rw (le-ltb pos (end x) h)

pub tells-some : (pos e : ℕ) (x : Extent) → pos < end x → tells pos e x ≡ with_hole pos (starts pos x) (clipped pos e x ∷ [])
unfolding tells
tells-some pos e x h = rw (lt-ltb pos (end x) h)

-- its part from pos on
abbrev rest : ℕ → Extent → Extent
rest pos x = extent (starts pos x) (x.physical + (starts pos x - x.logical)) (end x - starts pos x)

-- what it adds, where the others begin where it ends, or later
module _ (pos e : ℕ) (x : Extent) (xs : List Extent) (c : 0 < x.count) (p : pos ≤ e) (s : starts pos x < e)
    (keeps : pos < end x → from (reaches pos e x) xs ≡ xs) (ends : e < end x → below e xs ≡ []) where
  from-head : pos < end x → from pos (x ∷ xs) ≡ rest pos x ∷ xs
  from-head h =
      by_cases (dec_lt x.logical pos)
      (λ t. from-part pos x xs t h ∙ ap (λ (y : Extent). y ∷ xs) (extent_path _ (rest pos x) (omega arith) (omega arith) (omega arith)))
      (λ t. from_all pos x xs (omega arith) h ∙ ap (λ (y : Extent). y ∷ xs) (extent_path x (rest pos x) (omega arith) (omega arith) (omega arith)))

  below-first : pos < end x → below e (rest pos x ∷ xs) ≡ clipped pos e x ∷ below e xs
  below-first h =
      by_cases (dec_lt e (end x))
      (λ t. below-part e (rest pos x) xs s (omega arith)
      ∙ ap₂ (λ (y : Extent) (ys : List Extent). y ∷ ys) (extent_path _ (clipped pos e x) (omega arith) (omega arith) (omega arith)) (sym (ends t)))
      (λ t. below_all e (rest pos x) xs s (omega arith)
      ∙ ap (λ (y : Extent). y ∷ below e xs) (extent_path (rest pos x) (clipped pos e x) (omega arith) (omega arith) (omega arith)))

  pub between_more : between pos e (x ∷ xs) ≡ tells pos e x ++ between (reaches pos e x) e xs
  unfolding with_holes
  between_more =
      by_cases (dec_lt pos (end x))
      (λ h. let stop : starts pos x + (reaches pos e x - starts pos x) ≡ reaches pos e x = omega arith in
      ap (with_holes pos e) (ap (below e) (from-head h) ∙ below-first h)
      ∙ ap (λ (k : ℕ). with_hole pos (starts pos x) (clipped pos e x ∷ with_holes k e (below e xs))) stop
      ∙ ap (λ (ys : List Extent). with_hole pos (starts pos x) (clipped pos e x ∷ with_holes (reaches pos e x) e (below e ys))) (sym (keeps h))
      ∙ hole_append pos (starts pos x) (clipped pos e x ∷ []) (between (reaches pos e x) e xs)
      ∙ ap (λ (ys : List Extent). ys ++ between (reaches pos e x) e xs) (sym (tells-some pos e x h)))
      (λ h. let stop : pos ≡ reaches pos e x = omega arith in
      ap (λ (ys : List Extent). with_holes pos e (below e ys)) (from-none pos x xs (omega arith))
      ∙ ap (λ (k : ℕ). between k e xs) stop
      ∙ ap (λ (ys : List Extent). ys ++ between (reaches pos e x) e xs) (sym (tells_none pos e x (omega arith))))

-- ---- the walk, over slots

from-slots : (t : ℕ) (ws : List ℕ) (j m : ℕ) → (0 < m → (t ≤ (slot ws j).logical) × (0 < (slot ws j).count)) → from t (slots_from ws j m) ≡ slots_from ws j m
unfolding slots_from from
from-slots t ws j zero h = refl
from-slots t ws j (suc m) h = let f = h (omega arith) in from_all t (slot ws j) (slots_from ws (j + 1) m) f.0 (omega arith)

below-slots : (e : ℕ) (ws : List ℕ) (j m : ℕ) → (0 < m → e ≤ (slot ws j).logical) → below e (slots_from ws j m) ≡ []
unfolding slots_from below
below-slots e ws j zero h = refl
below-slots e ws j (suc m) h = below_none e (slot ws j) (slots_from ws (j + 1) m) (h (omega arith))

-- at slot i of u, the answer at pos: slot i ends after pos
pub record Walks (ws : List ℕ) (u i pos e : ℕ) : Type 0 where
  pub passed : i ≤ u
  pub order : pos ≤ e
  pub ahead : i < u → pos < end (slot ws i)

-- a read may start at the first slot that ends after l
pub walk_start : (l e i : ℕ) (ws : List ℕ) (u : ℕ) → Rising ws u → i ≡ ends_by l (slots_from ws 0 u)
    → between l e (slots_from ws 0 u) ≡ between l e (slots_from ws i (u - i))
walk_start l e i ws u s h = ap (λ (es : List Extent). with_holes l e (below e es)) (from-there ws u l i s h)

pub walks-start : (ws : List ℕ) (u i l e : ℕ) → l ≤ e → Rising ws u → i ≡ ends_by l (slots_from ws 0 u) → Walks ws u i l e
walks-start ws u i l e h r g =
    let k = ends-first ws u l r i g in
    record {
      passed = omega (arith, k.inside);
      order = h;
      ahead = λ t. k.high i (omega arith) t;
    }

-- where the answer has come to e, nothing is left
between-over : (e : ℕ) (es : List Extent) → between e e es ≡ []
unfolding with_holes
between-over e es = ap (with_holes e e) (below-from e es) ∙ no-hole e e [] (omega arith)

module _ (ws : List ℕ) (u i pos e : ℕ) (r : Rising ws u) (h : Walks ws u i pos e) where
  abbrev left : List Extent
  left = slots_from ws i (u - i)

  pub walks-over : e ≤ pos → between pos e left ≡ []
  walks-over t =
      let at : pos ≡ e = omega (arith, h.order) in
      ap (λ (k : ℕ). between k e left) at ∙ between-over e left

  no_slot : i ≡ u → between pos e left ≡ with_hole pos e []
  unfolding slots_from
  no_slot k = let z : u - i ≡ 0 = omega arith in ap (λ (m : ℕ). between pos e (slots_from ws i m)) z ∙ between_none pos e

  -- no slot is left that starts before e
  last_hole : pos < e → (i < u → e ≤ (slot ws i).logical) → between pos e left ≡ extent pos none (e - pos) ∷ between e e left
  last_hole t g =
      by_cases (dec_lt i u)
      (λ k. ap (between pos e) (slots-first ws i u k)
      ∙ between-end pos e (slot ws i) (slots_from ws (i + 1) (u - (i + 1))) (r.pieces i k).some h.order (omega (arith, g k)))
      (λ k. no_slot (omega (arith, h.passed)))
      ∙ some-hole pos e [] t
      ∙ ap (λ (es : List Extent). extent pos none (e - pos) ∷ es) (sym (between-over e left))

  module _ (k : i < u) where
    abbrev x : Extent
    x = slot ws i

    abbrev behind : ℕ → List Extent
    behind reach = between reach e (slots_from ws (i + 1) (u - (i + 1)))

    more : (p : ℕ) → p ≤ e → starts p x < e → between p e left ≡ tells p e x ++ behind (reaches p e x)
    more p t s =
        ap (between p e) (slots-first ws i u k)
        ∙ between_more p e x (slots_from ws (i + 1) (u - (i + 1))) (r.pieces i k).some t s
        (λ q. from-slots (reaches p e x) ws (i + 1) (u - (i + 1))
        (λ m. (omega (arith, r.rise i (omega arith), (r.pieces i k).some), (r.pieces (i + 1) (omega arith)).some)))
        (λ q. below-slots e ws (i + 1) (u - (i + 1)) (λ m. omega (arith, r.rise i (omega arith))))

    -- slot i has page p
    holding : (p : ℕ) → x.logical ≤ p → p < end x → p < e
        → between p e left ≡ extent p (x.physical + (p - x.logical)) (min (end x) e - p) ∷ behind (min (end x) e)
    holding p s t q =
        let first : starts p x ≡ p = omega arith in
        let reach : reaches p e x ≡ min (end x) e = omega arith in
        more p (omega arith) (omega arith)
        ∙ ap (λ (ys : List Extent). ys ++ behind (reaches p e x)) (tells-some p e x t ∙ no-hole p (starts p x) (clipped p e x ∷ []) (omega arith))
        ∙ ap₂ (λ (a b : ℕ). extent a (x.physical + (a - x.logical)) (b - a) ∷ behind b) first reach

    -- it starts behind pos
    hole_first : pos < x.logical → x.logical < e → between pos e left ≡ extent pos none (x.logical - pos) ∷ between x.logical e left
    hole_first s t =
        let some : 0 < x.count = (r.pieces i k).some in
        let first : starts pos x ≡ x.logical = omega arith in
        let reach : reaches pos e x ≡ min (end x) e = omega arith in
        more pos h.order (omega arith)
        ∙ ap (λ (ys : List Extent). ys ++ behind (reaches pos e x)) (tells-some pos e x (omega arith) ∙ some-hole pos (starts pos x) (clipped pos e x ∷ []) (omega arith))
        ∙ ap₂ (λ (a b : ℕ). extent pos none (a - pos) ∷ extent a (x.physical + (a - x.logical)) (b - a) ∷ behind b) first reach
        ∙ ap (λ (ys : List Extent). extent pos none (x.logical - pos) ∷ ys) (sym (holding x.logical (omega arith) (omega arith) t))

  -- the piece of slot i, which starts at pos or before, and reaches as far as it and e do
  pub walks-piece : i < u → (x : Extent) (reach : ℕ) → x ≡ slot ws i → reach ≡ min (end x) e → x.logical ≤ pos → pos < e
      → between pos e left ≡ extent pos (x.physical + (pos - x.logical)) (reach - pos) ∷ between reach e (slots_from ws (i + 1) (u - (i + 1)))
  walks-piece k x reach g a s t = rw (a, g) (holding k pos (rw g at s) (h.ahead k) t)

  -- the hole up to where the next slot starts, or e
  pub walks-hole : (stop : ℕ) → pos < stop → stop ≤ e → (i < u → stop ≤ (slot ws i).logical) → (stop < e → (i < u) × (stop ≡ (slot ws i).logical))
      → between pos e left ≡ extent pos none (stop - pos) ∷ between stop e left
  walks-hole stop a b c d =
      by_cases (dec_lt stop e)
      (λ t. let g = d t in rw g.1 (hole_first g.0 (omega arith) (omega arith)))
      (λ t. let at : stop ≡ e = omega arith in rw at (last_hole (omega arith) (λ k. omega (arith, c k))))

-- ---- how many there are

hole_most : (a b : ℕ) (xs : List Extent) → length (with_hole a b xs) ≤ length xs + 1
hole_most a b xs = by_cases (dec_lt a b) (λ h. omega (arith, ap length (some-hole a b xs h))) (λ h. omega (arith, ap length (no-hole a b xs (omega arith))))

holes_most : (a b : ℕ) (xs : List Extent) → length (with_holes a b xs) ≤ 2 * length xs + 1
unfolding with_holes
holes_most a b [] = hole_most a b []
holes_most a b (x ∷ xs) = omega (arith, hole_most a x.logical (x ∷ with_holes (end x) b xs), holes_most (end x) b xs)

pub between-most : (l e : ℕ) (ws : List ℕ) (i u : ℕ) → length (between l e (slots_from ws i u)) ≤ 2 * u + 5
unfolding cut
between-most l e ws i u =
    let es = slots_from ws i u in
    let on = from l es in
    omega (
      arith,
      holes_most l e (below e on),
      cut-bound e e on (omega arith),
      length-append (below e on) (from e on),
      cut-bound l l es (omega arith),
      length-append (below l es) on,
      slots_length ws i u,
    )

-- ---- of a state

-- what a read in range finds
pub found-words : (s : Lent) → Shaped s → SoundState s → (l n : ℕ) → l + n ≤ s.head.logical → found l n (device_of s) ≡ between l (l + n) (in_use s)
found-words s h z l n f =
    let g = state-storable s h z in
    found-window l n (device_of s) g.sound.some (omega (arith, device-lines s)) (table-lines (device_of s) g.sound)
    ∙ ap (between l (l + n)) (extents-in_use s h z)
