-- What a cut leaves of the extents, by slots: those that start before l with the last of them clipped on the right, and those that end
-- after e begins with the first of them clipped on the left.
use Prim.Native.Nat.{ℕ, zero, suc, ◌+◌, ◌-◌, ◌*◌, ◌≤◌, ◌<◌, min, max}
use Rattle.std.specs.Prelude.{◌≡◌, length}
use Rattle.std.proofs.Math.Path.{refl, sym, ap, ap₂}
use Rattle.std.proofs.Common.{◌∙◌, subst, lt-ltb, le-ltb, drop-set-lt, get_or-set_same, get_or-set_other}
use mathlib.Core.List.{List, [], ◌∷◌, ◌++◌}
use Rattle.std.proofs.Math.Logic.{by_cases}
use native.Mathlib.Omega.{arith}
use Rattle.std.proofs.Math.Decide.{dec_lt}
use Rattle.std.proofs.Math.Dec.{ltb}
use Rattle.std.proofs.Math.ListN.{get_or, take, drop, set, length-set}
use Rattle.std.proofs.lemmas.List.{take-set-le, drop-set-add, set-append_left}
use Rattle.std.proofs.Math.Seq.{drop-cons, set_out, take-set-lt, length-take-le}
use Rattle.rules.specs.Counting.{one}
use Rattle.rules.specs.Extents.{none, extent, end, slot, put_slot, slots_from}
use Rattle.rules.specs.declared.Extent.{Extent}
use Rattle.laws.specs.Rows.{Rows}
use Rattle.laws.specs.Sums.{one_le}
use Rattle.laws.specs.Unique.{extent_path}
use Rattle.laws.specs.Cut.{below, from, cut, below_none, below-part, below_all, from-none, from-part, from_all}
use Rattle.laws.specs.Slots.{blank, slots_at, slots_length}
use Rattle.laws.specs.Counts.{starts_before, ends_after, tally, tally_le, starts_none, ends-all}
use Rattle.map.specs.Sound.{SoundMap}
use Rattle.map.specs.Padded.{padded, spliced, spliced-length, Holds, became_length, became_slots, became_holds, holds-put}

-- an extent's part below l
abbrev pub up_to : ℕ → Extent → Extent
up_to l x = extent x.logical x.physical (min x.count (l - x.logical))

-- its part from e on
abbrev pub on_from : ℕ → Extent → Extent
on_from e x = extent (max e x.logical) (x.physical + (max e x.logical - x.logical)) (end x - max e x.logical)

-- the last of a extents clipped on the right
unfoldable pub clip_right : ℕ → ℕ → List Extent → List Extent
clip_right l zero es = es
clip_right l (suc i) es = set es i (up_to l (get_or es i blank))

-- the first from slot z on clipped on the left
unfoldable pub clip_left : ℕ → ℕ → List Extent → List Extent
clip_left e z es = set es z (on_from e (get_or es z blank))

-- slot i taken apart
unfoldable pub split_at : ℕ → ℕ → ℕ → List Extent → List Extent
split_at l e i es = take (i + 1) (set es i (up_to l (get_or es i blank))) ++ on_from e (get_or es i blank) ∷ drop (i + 1) es

-- ---- what lies below l: a extents start before it

below-zero : (l : ℕ) (es : List Extent) → 0 ≡ starts_before l es → below l es ≡ []
unfolding below tally
below-zero l [] e = refl
below-zero l (x ∷ xs) e =
    by_cases (dec_lt x.logical l)
    (λ s. absurd (omega (arith, ap one (lt-ltb x.logical l s))))
    (λ s. below_none l x xs (omega arith))

below_last : (n hi l : ℕ) (es : List Extent) (lo q i : ℕ) → Rows n lo q hi es → suc i ≡ starts_before l es → below l es ≡ take (suc i) (clip_right l (suc i) es)
unfolding below clip_right tally
below_last n hi l [] lo q i h e = absurd (omega arith)
below_last n hi l (x ∷ xs) lo q zero h e =
    by_cases (dec_lt x.logical l)
    (λ s. by_cases (dec_lt l (end x))
    (λ t. below-part l x xs s t ∙ ap (λ (y : Extent). y ∷ []) (extent_path _ (up_to l x) refl refl (omega arith)))
    (λ t. below_all l x xs s (omega arith)
    ∙ ap₂ (λ (y : Extent) (ys : List Extent). y ∷ ys) (extent_path x (up_to l x) refl refl (omega arith))
    (below-zero l xs (omega (arith, ap one (lt-ltb x.logical l s))))))
    (λ s. absurd (omega (arith, ap one (le-ltb x.logical l (omega arith)), starts_none n hi l xs _ _ h.1 (omega arith))))
below_last n hi l (x ∷ xs) lo q (suc j) h e =
    by_cases (dec_lt (end x) l)
    (λ s. below_all l x xs (omega arith) (omega arith)
    ∙ ap (λ (ys : List Extent). x ∷ ys) (below_last n hi l xs _ _ j h.1 (omega (arith, ap one (lt-ltb x.logical l (omega arith))))))
    (λ s. absurd (omega (arith, one_le (ltb x.logical l), starts_none n hi l xs _ _ h.1 (omega arith))))

pub below-take : (n hi l : ℕ) (es : List Extent) (a : ℕ) → Rows n 0 none hi es → a ≡ starts_before l es → below l es ≡ take a (clip_right l a es)
below-take n hi l es zero h e = below-zero l es e
below-take n hi l es (suc i) h e = below_last n hi l es 0 none i h e

-- ---- what lies from e on: all but z extents end after it begins

from_first : (n hi e : ℕ) (es : List Extent) (lo q z : ℕ) → Rows n lo q hi es → z + ends_after e es ≡ length es → from e es ≡ drop z (clip_left e z es)
unfolding from clip_left tally
from_first n hi e [] lo q z h g = let at : z ≡ 0 = omega arith in rw at
from_first n hi e (x ∷ xs) lo q zero h g =
    by_cases (dec_lt e (end x))
    (λ s. by_cases (dec_lt x.logical e)
    (λ t. from-part e x xs t s ∙ ap (λ (y : Extent). y ∷ xs) (extent_path _ (on_from e x) (omega arith) (omega arith) (omega arith)))
    (λ t. from_all e x xs (omega arith) s ∙ ap (λ (y : Extent). y ∷ xs) (extent_path x (on_from e x) (omega arith) (omega arith) (omega arith))))
    (λ s. absurd (omega (arith, ap one (le-ltb e (end x) (omega arith)), tally_le (λ y. ltb e (end y)) xs)))
from_first n hi e (x ∷ xs) lo q (suc z) h g =
    by_cases (dec_lt e (end x))
    (λ s. absurd (omega (arith, ap one (lt-ltb e (end x) s), ends-all n hi e xs _ _ h.1 (omega arith))))
    (λ s. from-none e x xs (omega arith) ∙ from_first n hi e xs _ _ z h.1 (omega (arith, ap one (le-ltb e (end x) (omega arith)))))

pub from-drop : (n hi e : ℕ) (es : List Extent) (z : ℕ) → Rows n 0 none hi es → z + ends_after e es ≡ length es → from e es ≡ drop z (clip_left e z es)
from-drop n hi e es z h g = from_first n hi e es 0 none z h g

-- ---- the cut

pub clip_right-length : (l a : ℕ) (es : List Extent) → length (clip_right l a es) ≡ length es
unfolding clip_right
clip_right-length l zero es = refl
clip_right-length l (suc i) es = length-set es i (up_to l (get_or es i blank))

pub clip_left-length : (e z : ℕ) (es : List Extent) → length (clip_left e z es) ≡ length es
unfolding clip_left
clip_left-length e z es = length-set es z (on_from e (get_or es z blank))

-- clipped before, the first from slot z on is as it was
pub right-at : (l a z : ℕ) (es : List Extent) → a ≤ z → get_or (clip_right l a es) z blank ≡ get_or es z blank
unfolding clip_right
right-at l zero z es h = refl
right-at l (suc i) z es h = get_or-set_other es i z (up_to l (get_or es i blank)) blank (omega arith)

right-drop : (l a z : ℕ) (es : List Extent) → a ≤ z → drop z (clip_right l a es) ≡ drop z es
unfolding clip_right
right-drop l zero z es h = refl
right-drop l (suc i) z es h = drop-set-lt z es i (up_to l (get_or es i blank)) (omega arith)

set-drop : (z : ℕ) (xs ys : List Extent) (v : Extent) → drop z xs ≡ drop z ys → drop z (set xs z v) ≡ drop z (set ys z v)
set-drop z xs ys v h =
    let e : z ≡ z + 0 = omega arith in
    ap (λ (k : ℕ). drop z (set xs k v)) e ∙ drop-set-add z xs 0 v ∙ ap (λ (r : List Extent). set r 0 v) h
    ∙ sym (ap (λ (k : ℕ). drop z (set ys k v)) e ∙ drop-set-add z ys 0 v)

module _ (n hi l e : ℕ) (es : List Extent) (a z : ℕ) (h : Rows n 0 none hi es) (before : a ≡ starts_before l es) (after : z + ends_after e es ≡ length es) where
  -- each side has its own extents
  pub cut_apart : a ≤ z → take a (clip_left e z (clip_right l a es)) ++ drop z (clip_left e z (clip_right l a es)) ≡ cut l e es
  unfolding cut clip_left
  cut_apart s =
      let x = on_from e (get_or (clip_right l a es) z blank) in
      sym (ap₂ (λ (xs ys : List Extent). xs ++ ys)
      (below-take n hi l es a h before ∙ sym (take-set-le a (clip_right l a es) z x s))
      (from-drop n hi e es z h after ∙ ap (λ (y : Extent). drop z (set es z (on_from e y))) (sym (right-at l a z es s))
      ∙ set-drop z es (clip_right l a es) x (sym (right-drop l a z es s))))

  -- one extent lies on both sides
  pub cut_split : a ≡ z + 1 → split_at l e z es ≡ cut l e es
  unfolding cut clip_left clip_right split_at
  cut_split s =
      let x = get_or es z blank in
      let one : a ≡ suc z = omega arith in
      let size = tally_le (λ y. ltb y.logical l) es in
      sym (ap₂ (λ (xs ys : List Extent). xs ++ ys)
      (below-take n hi l es (suc z) h (sym one ∙ before) ∙ ap (λ (k : ℕ). take k (set es z (up_to l x))) (sym one ∙ s))
      (from-drop n hi e es z h after ∙ drop-cons (set es z (on_from e x)) z blank (omega (arith, length-set es z (on_from e x)))
      ∙ ap₂ (λ (y : Extent) (ys : List Extent). y ∷ ys) (get_or-set_same es z (on_from e x) blank (omega arith))
      (drop-set-lt (suc z) es z (on_from e x) (omega arith) ∙ ap (λ (k : ℕ). drop k es) (sym one ∙ s))))

-- ---- where the extents lie that are clipped

starts-at : (n hi l : ℕ) (es : List Extent) (lo q i : ℕ) → Rows n lo q hi es → i < starts_before l es → (get_or es i blank).logical < l
unfolding tally
starts-at n hi l [] lo q i h s = absurd (omega arith)
starts-at n hi l (x ∷ xs) lo q zero h s =
    by_cases (dec_lt x.logical l)
    (λ t. t)
    (λ t. absurd (omega (arith, ap one (le-ltb x.logical l (omega arith)), starts_none n hi l xs _ _ h.1 (omega arith))))
starts-at n hi l (x ∷ xs) lo q (suc i) h s = starts-at n hi l xs _ _ i h.1 (omega (arith, one_le (ltb x.logical l)))

ends_at : (n hi e : ℕ) (es : List Extent) (lo q z : ℕ) → Rows n lo q hi es → z + ends_after e es ≡ length es → z < length es → e < end (get_or es z blank)
unfolding tally
ends_at n hi e [] lo q z h g s = absurd (omega arith)
ends_at n hi e (x ∷ xs) lo q zero h g s =
    by_cases (dec_lt e (end x))
    (λ t. t)
    (λ t. absurd (omega (arith, ap one (le-ltb e (end x) (omega arith)), tally_le (λ y. ltb e (end y)) xs)))
ends_at n hi e (x ∷ xs) lo q (suc z) h g s =
    by_cases (dec_lt e (end x))
    (λ t. absurd (omega (arith, ap one (lt-ltb e (end x) t), ends-all n hi e xs _ _ h.1 (omega arith))))
    (λ t. ends_at n hi e xs _ _ z h.1 (omega (arith, ap one (le-ltb e (end x) (omega arith)))) (omega arith))

-- ---- the same on the words that hold them

module _ (ws : List ℕ) (u : ℕ) where
  pub at_slot : (i : ℕ) → i < u → get_or (slots_from ws 0 u) i blank ≡ slot ws i
  at_slot i h = slots_at ws 0 u i i blank h (omega arith)

  module _ (s : SoundMap (slots_from ws 0 u)) where
    pub sound-starts : (l i : ℕ) → i < starts_before l (slots_from ws 0 u) → (slot ws i).logical < l
    sound-starts l i h =
        let b = tally_le (λ y. ltb y.logical l) (slots_from ws 0 u) in
        subst (λ (x : Extent). x.logical < l) (at_slot i (omega (arith, slots_length ws 0 u))) (starts-at s.pages s.logical l (slots_from ws 0 u) 0 none i s.rows h)

    pub sound-ends : (e z : ℕ) → z + ends_after e (slots_from ws 0 u) ≡ u → z < u → e < end (slot ws z)
    sound-ends e z g h =
        subst (λ (x : Extent). e < end x) (at_slot z h)
        (ends_at s.pages s.logical e (slots_from ws 0 u) 0 none z s.rows (g ∙ sym (slots_length ws 0 u)) (omega (arith, slots_length ws 0 u)))

  -- the clips, as the code leaves them
  module _ (h : Holds ws u) where
    pub right-none : (l a : ℕ) → a < 1 → ws ≡ padded (length ws) (clip_right l a (slots_from ws 0 u))
    unfolding clip_right
    right-none l a s = let e : a ≡ 0 = omega arith in rw e h.is

    pub right-put : (l a : ℕ) (left : Extent) (ws' : List ℕ) → 1 ≤ a → a ≤ u → left ≡ up_to l (slot ws (a - 1)) → ws' ≡ put_slot ws (a - 1) left
        → ws' ≡ padded (length ws) (clip_right l a (slots_from ws 0 u))
    unfolding clip_right
    right-put l a left ws' s t c g =
        let e : a ≡ suc (a - 1) = omega arith in
        let x = at_slot (a - 1) (omega arith) in
        rw e (g ∙ holds-put ws u (a - 1) left h (omega arith) ∙ ap (λ (y : Extent). padded (length ws) (set (slots_from ws 0 u) (a - 1) y)) (c ∙ ap (up_to l) (sym x)))

    pub clip_left-none : (e z : ℕ) → u ≤ z → ws ≡ padded (length ws) (clip_left e z (slots_from ws 0 u))
    unfolding clip_left
    clip_left-none e z s = h.is ∙ ap (padded (length ws)) (sym (set_out (slots_from ws 0 u) z _ (omega (arith, slots_length ws 0 u))))

    pub left-put : (e z : ℕ) (right : Extent) (ws' : List ℕ) → z < u → right ≡ on_from e (slot ws z) → ws' ≡ put_slot ws z right
        → ws' ≡ padded (length ws) (clip_left e z (slots_from ws 0 u))
    unfolding clip_left
    left-put e z right ws' s c g =
        g ∙ holds-put ws u z right h s ∙ ap (λ (y : Extent). padded (length ws) (set (slots_from ws 0 u) z y)) (c ∙ ap (on_from e) (sym (at_slot z s)))

    -- the right part put in behind slot i
    module _ (l e i : ℕ) (f : 3 * (u + 1) ≤ length ws) (t : i < u) (left right : Extent) (c : left ≡ up_to l (slot ws i)) (d : right ≡ on_from e (slot ws i))
        (mid : List ℕ) (g : mid ≡ padded (length ws) (spliced (i + 1) (right ∷ []) (slots_from ws 0 u))) where
      abbrev es : List Extent
      es = slots_from ws 0 u

      abbrev both : List Extent
      both = spliced (i + 1) (right ∷ []) es

      size : length es ≡ u
      size = slots_length ws 0 u

      one_more : length both ≡ u + 1
      one_more = spliced-length (i + 1) (right ∷ []) es (omega (arith, size)) ∙ omega (arith, size)

      split_holds : Holds mid (u + 1)
      split_holds = became_holds (length ws) both mid (u + 1) g one_more f

      -- and slot i clipped
      pub split_set : (ws' : List ℕ) → ws' ≡ put_slot mid i left → ws' ≡ padded (length ws) (split_at l e i es)
      unfolding split_at spliced
      split_set ws' q =
          let x = at_slot i t in
          q ∙ holds-put mid (u + 1) i left split_holds (omega arith)
          ∙ ap₂ (λ (j : ℕ) (xs : List Extent). padded j (set xs i left)) (became_length (length ws) both mid (u + 1) g one_more f)
          (became_slots (length ws) both mid (u + 1) g one_more f)
          ∙ ap (padded (length ws)) (set-append_left (take (i + 1) es) (right ∷ drop (i + 1) es) i left (omega (arith, length-take-le (i + 1) es (omega (arith, size))))
          ∙ ap₂ (λ (y : Extent) (v : Extent). set (take (i + 1) es) i y ++ v ∷ drop (i + 1) es) (c ∙ ap (up_to l) (sym x)) (d ∙ ap (on_from e) (sym x))
          ∙ ap (λ (ys : List Extent). ys ++ on_from e (get_or es i blank) ∷ drop (i + 1) es) (sym (take-set-lt (i + 1) es i (up_to l (get_or es i blank)) (omega arith))))
