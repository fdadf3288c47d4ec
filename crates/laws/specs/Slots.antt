-- Extents as words, three a slot: slots read from words, one put in the place of another, and words laid out from extents.
use Prim.Native.Nat.{ℕ, zero, suc, ◌+◌, ◌-◌, ◌*◌, ◌≤◌, ◌<◌}
use Rattle.std.specs.Prelude.{◌≡◌, refl, List, [], ◌∷◌, ◌++◌, length, get_or, take, drop}
use Rattle.std.proofs.Common.{sym, ap, ◌∙◌, append-nil, not-suc-le-zero, le_of_suc-le-suc}
use Rattle.std.proofs.Math.Path.{ap₂}
use native.Mathlib.Omega.{arith}
use Rattle.std.proofs.Math.ListN.{set, length-set}
use Rattle.std.proofs.lemmas.List.Edits.{sets}
use Rattle.std.proofs.Math.Seq.{get_or-set_same, get_or-set_other}
use Rattle.rules.specs.Extents.{extent, slot, put_slot, slots_from, flat}
use Rattle.rules.specs.declared.Extent.{Extent}
use Rattle.laws.specs.Unique.{extent_path}

-- what an extent that is not there would be
abbrev pub blank : Extent
blank = extent 0 0 0

-- ---- slots read from words

pub slots_length : (ws : List ℕ) (i u : ℕ) → length (slots_from ws i u) ≡ u
unfolding slots_from
slots_length ws i zero = refl
slots_length ws i (suc u) = ap suc (slots_length ws (i + 1) u)

pub slots_at : (ws : List ℕ) (i u j k : ℕ) (x : Extent) → j < u → k ≡ i + j → get_or (slots_from ws i u) j x ≡ slot ws k
unfolding slots_from
slots_at ws i zero j k x h e = absurd (omega arith)
slots_at ws i (suc u) zero k x h e = let at : i ≡ k = omega arith in ap (slot ws) at
slots_at ws i (suc u) (suc j) k x h e = slots_at ws (i + 1) u j k x (omega arith) (omega arith)

-- of the slots from i up to u the first is slot i
pub slots-first : (ws : List ℕ) (i u : ℕ) → i < u → slots_from ws i (u - i) ≡ slot ws i ∷ slots_from ws (i + 1) (u - (i + 1))
unfolding slots_from
slots-first ws i u h = let e : u - i ≡ suc (u - (i + 1)) = omega arith in ap (slots_from ws i) e

-- slots and those behind them
pub slots-join : (ws : List ℕ) (i u v k m : ℕ) → k ≡ u + v → m ≡ i + u → slots_from ws i k ≡ slots_from ws i u ++ slots_from ws m v
unfolding slots_from
slots-join ws i zero v k m e g =
    let a : k ≡ v = omega arith in
    let b : i ≡ m = omega arith in
    ap₂ (λ (x y : ℕ). slots_from ws x y) b a
slots-join ws i (suc u) v k m e g =
    let a : k ≡ suc (u + v) = omega arith in
    ap (slots_from ws i) a ∙ ap (λ (es : List Extent). slot ws i ∷ es) (slots-join ws (i + 1) u v (u + v) m refl (omega arith))

-- one slot more stands at the end
pub slots-more : (ws : List ℕ) (i u j : ℕ) → j ≡ i + u → slots_from ws i (u + 1) ≡ slots_from ws i u ++ slot ws j ∷ []
unfolding slots_from
slots-more ws i u j e = slots-join ws i u 1 (u + 1) j refl e

triple : (s : ℕ) → 3 * suc s ≡ suc (suc (suc (3 * s)))
triple s = omega arith

-- behind one extent's words the slots are those of the rest
slot-behind : (a b c : ℕ) (ws : List ℕ) (i j : ℕ) → j ≡ suc i → slot (a ∷ b ∷ c ∷ ws) j ≡ slot ws i
slot-behind a b c ws i j e =
    let word : ℕ → ℕ = λ k. get_or (a ∷ b ∷ c ∷ ws) k 0 in
    let first : 3 * j ≡ suc (suc (suc (3 * i))) = omega arith in
    let second : 3 * j + 1 ≡ suc (suc (suc (3 * i + 1))) = omega arith in
    let third : 3 * j + 2 ≡ suc (suc (suc (3 * i + 2))) = omega arith in
    extent_path (slot (a ∷ b ∷ c ∷ ws) j) (slot ws i) (ap word first) (ap word second) (ap word third)

slots-behind : (a b c : ℕ) (ws : List ℕ) (i j u : ℕ) → j ≡ suc i → slots_from (a ∷ b ∷ c ∷ ws) j u ≡ slots_from ws i u
unfolding slots_from
slots-behind a b c ws i j zero e = refl
slots-behind a b c ws i j (suc u) e =
    ap₂ (λ (x : Extent) (xs : List Extent). x ∷ xs) (slot-behind a b c ws i j e) (slots-behind a b c ws (i + 1) (j + 1) u (omega arith))

-- ---- one slot put

module _ (ws : List ℕ) (i : ℕ) (e : Extent) where
  abbrev once : List ℕ
  once = set ws (3 * i) e.logical

  abbrev twice : List ℕ
  twice = set once (3 * i + 1) e.physical

  twice-length : length twice ≡ length ws
  twice-length = length-set once (3 * i + 1) e.physical ∙ length-set ws (3 * i) e.logical

  -- it is the extent there
  pub put_slot_here : 3 * i + 2 < length ws → slot (put_slot ws i e) i ≡ e
  unfolding put_slot
  put_slot_here h =
      extent_path (slot (put_slot ws i e) i) e
      (get_or-set_other twice (3 * i + 2) (3 * i) e.count 0 (omega arith) ∙ get_or-set_other once (3 * i + 1) (3 * i) e.physical 0 (omega arith)
      ∙ get_or-set_same ws (3 * i) e.logical 0 (omega arith))
      (get_or-set_other twice (3 * i + 2) (3 * i + 1) e.count 0 (omega arith)
      ∙ get_or-set_same once (3 * i + 1) e.physical 0 (omega (arith, length-set ws (3 * i) e.logical)))
      (get_or-set_same twice (3 * i + 2) e.count 0 (omega (arith, twice-length)))

  -- the other words stay
  pub put_slot_else : (k : ℕ) → (3 * i ≤ k → k < 3 * i + 3 → ⊥) → get_or (put_slot ws i e) k 0 ≡ get_or ws k 0
  unfolding put_slot
  put_slot_else k h =
      get_or-set_other twice (3 * i + 2) k e.count 0 (λ g. h (omega arith) (omega arith))
      ∙ get_or-set_other once (3 * i + 1) k e.physical 0 (λ g. h (omega arith) (omega arith))
      ∙ get_or-set_other ws (3 * i) k e.logical 0 (λ g. h (omega arith) (omega arith))

  -- three words stored from there on
  pub put_slot_sets : put_slot ws i e ≡ sets ws (3 * i) (flat (e ∷ []))
  unfolding put_slot flat
  put_slot_sets =
      let a : 3 * i + 1 ≡ suc (3 * i) = omega arith in
      let b : 3 * i + 2 ≡ suc (suc (3 * i)) = omega arith in
      ap₂ (λ (x y : ℕ). set (set once x e.physical) y e.count) a b

-- ---- words laid out from extents

pub flat-length : (es : List Extent) → length (flat es) ≡ 3 * length es
unfolding flat
flat-length [] = refl
flat-length (e ∷ es) = omega (arith, flat-length es)

pub flat_append : (xs ys : List Extent) → flat (xs ++ ys) ≡ flat xs ++ flat ys
unfolding flat
flat_append [] ys = refl
flat_append (x ∷ xs) ys = rw (flat_append xs ys)

pub flat-take : (s : ℕ) (es : List Extent) (z : List ℕ) → s ≤ length es → take (3 * s) (flat es ++ z) ≡ flat (take s es)
unfolding flat
flat-take zero es z h = refl
flat-take (suc s) [] z h = absurd (not-suc-le-zero h)
flat-take (suc s) (e ∷ es) z h = rw (triple, flat-take s es z (le_of_suc-le-suc h))

pub flat-drop : (s : ℕ) (es : List Extent) (z : List ℕ) → s ≤ length es → drop (3 * s) (flat es ++ z) ≡ flat (drop s es) ++ z
unfolding flat
flat-drop zero es z h = refl
flat-drop (suc s) [] z h = absurd (not-suc-le-zero h)
flat-drop (suc s) (e ∷ es) z h = rw triple (flat-drop s es z (le_of_suc-le-suc h))

-- ---- there and back

pub slots-flat : (es : List Extent) (z : List ℕ) → slots_from (flat es ++ z) 0 (length es) ≡ es
unfolding slots_from flat
slots-flat [] z = refl
slots-flat (e ∷ es) z =
    ap (λ (xs : List Extent). e ∷ xs)
    (slots-behind e.logical e.physical e.count (flat es ++ z) 0 (0 + 1) (length es) (omega arith) ∙ slots-flat es z)

pub flat-slots : (ws : List ℕ) (u : ℕ) → 3 * u ≤ length ws → flat (slots_from ws 0 u) ≡ take (3 * u) ws
unfolding slots_from flat
flat-slots ws zero h = refl
flat-slots [] (suc u) h = absurd (omega arith)
flat-slots (a ∷ []) (suc u) h = absurd (omega arith)
flat-slots (a ∷ b ∷ []) (suc u) h = absurd (omega arith)
flat-slots (a ∷ b ∷ c ∷ ws) (suc u) h =
    rw (triple, slots-behind a b c ws 0 (0 + 1) u (omega arith), flat-slots ws u (omega arith))

-- the slots of a part, from slot s on
pub slots-part : (ws : List ℕ) (s u m : ℕ) → m ≡ 3 * u → 3 * (s + u) ≤ length ws → slots_from (take m (drop (3 * s) ws)) 0 u ≡ slots_from ws s u
slots-part ws zero u m e h =
    let es = slots_from ws 0 u in
    let words : take m ws ≡ flat es ++ [] = ap (λ (n : ℕ). take n ws) e ∙ sym (append-nil (flat es) ∙ flat-slots ws u (omega arith)) in
    ap₂ (λ (w : List ℕ) (n : ℕ). slots_from w 0 n) words (sym (slots_length ws 0 u)) ∙ slots-flat es []
slots-part [] (suc s) u m e h = absurd (omega arith)
slots-part (a ∷ []) (suc s) u m e h = absurd (omega arith)
slots-part (a ∷ b ∷ []) (suc s) u m e h = absurd (omega arith)
slots-part (a ∷ b ∷ c ∷ ws) (suc s) u m e h =
    rw triple (slots-part ws s u m e (omega arith) ∙ sym (slots-behind a b c ws s (suc s) u refl))
