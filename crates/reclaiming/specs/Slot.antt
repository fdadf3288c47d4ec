-- Slots moved one by one: each pushed behind the slots that stand already, and joined with the last of them where it can be.
use Rattle.std.specs.Prelude.{◌≡◌, ℕ, zero, suc, ◌+◌, ◌-◌, ◌*◌, ◌<◌, ◌≤◌}
use Rattle.std.specs.Prelude.{Bool, true, false, ◌&&◌, List, [], ◌∷◌, ◌++◌, map, length, replicate, nat_lt, slice_index, refl}
use Rattle.std.proofs.Common.{sym, ap, ap₂, ◌∙◌, subst, append_assoc, arith, lt-ltb, le-ltb, ltb-true}
use Rattle.std.proofs.lemmas.List.{map-append, length-replicate, get_or-replicate}
use Rattle.std.proofs.Math.Logic.{by_cases}
use Rattle.std.proofs.Math.Decide.{dec_lt}
use borrow.Rule.Slice.PartMut.{mid_of, put_mid}
use Rattle.std.proofs.lemmas.List.Edits.{sets}
use Rattle.std.proofs.Math.Seq.{length-sets}
use Rattle.rules.specs.Extents.{none, extent, end, joinable, slot, put_slot, slots_from}
use Rattle.rules.specs.declared.Extent.{Extent}
use Rattle.laws.specs.Bools.{and_split}
use Rattle.laws.specs.Cells.{sets_low, sets_in, sets_high}
use Rattle.laws.specs.Slots.{slots_length, slots-more, put_slot_here, put_slot_else}
use Rattle.laws.specs.Unique.{extent_path}
use Rattle.laws.specs.Runs.{joinable-true, join-joined, join_apart}
use Rattle.laws.specs.Norm.{norm, move}
use Rattle.map.specs.Padded.{padded, zeros-holds}
use Rattle.choosing.specs.Part.{part_filled}
use Rattle.choosing.specs.Covered.{covered}
use Rattle.choosing.specs.Ranks.{Ranks}
use Rattle.reclaiming.specs.Remapped.{remapped, ranked_page, places-moved, push, norm-push, push-last}

-- each of u slots ends at or below the greatest word
abbrev pub Ends : List ℕ → ℕ → Type 0
Ends ws u = (i : ℕ) → i < u → end (slot ws i) ≤ none

pub slot-moved : (g : ℕ → ℕ) (ws : List ℕ) (i p : ℕ) → p ≡ g (slice_index ws (3 * i + 1)) → extent (slice_index ws (3 * i)) p (slice_index ws (3 * i + 2)) ≡ move g (slot ws i)
slot-moved g ws i p e = ap (λ (q : ℕ). extent (slice_index ws (3 * i)) q (slice_index ws (3 * i + 2))) e

pub slot_same : (ws ws' : List ℕ) (i : ℕ) → ((k : ℕ) → 3 * i ≤ k → k < 3 * i + 3 → slice_index ws k ≡ slice_index ws' k) → slot ws i ≡ slot ws' i
slot_same ws ws' i h =
    extent_path (slot ws i) (slot ws' i) (h (3 * i) (omega arith) (omega arith)) (h (3 * i + 1) (omega arith) (omega arith)) (h (3 * i + 2) (omega arith) (omega arith))

pub slots_same : (ws ws' : List ℕ) (i u : ℕ) → ((k : ℕ) → 3 * i ≤ k → k < 3 * (i + u) → slice_index ws k ≡ slice_index ws' k) → slots_from ws i u ≡ slots_from ws' i u
unfolding slots_from
slots_same ws ws' i zero h = refl
slots_same ws ws' i (suc u) h =
    ap₂ (λ (e : Extent) (es : List Extent). e ∷ es)
    (slot_same ws ws' i (λ k a b. h k a (omega arith)))
    (slots_same ws ws' (i + 1) u (λ k a b. h k (omega arith) (omega arith)))

-- ---- slots pushed from the left

-- extent x pushed behind the first w slots: k slots stand then
pub record Pushed (n : ℕ) (ws : List ℕ) (w : ℕ) (x : Extent) (ws' : List ℕ) (k : ℕ) : Type 0 where
  pub done : slots_from ws' 0 k ≡ push n (slots_from ws 0 w) x
  pub rest : (j : ℕ) → 3 * (w + 1) ≤ j → slice_index ws' j ≡ slice_index ws j
  pub few : k ≤ w + 1

-- slot x is joinable with the last of the first w slots
unfoldable pub joins_last : ℕ → List ℕ → ℕ → Extent → Bool
joins_last n ws w x = nat_lt 0 w && joinable n (slot ws (w - 1)) x

pub joins-none : (n : ℕ) (ws : List ℕ) (w : ℕ) (x : Extent) → w ≡ 0 → false ≡ joins_last n ws w x
unfolding joins_last
joins-none n ws w x e = rw (le-ltb 0 w (omega arith))

pub joins-some : (n : ℕ) (ws : List ℕ) (w : ℕ) (x : Extent) → 0 < w → joins_last n ws w x ≡ joinable n (slot ws (w - 1)) x
unfolding joins_last
joins-some n ws w x e = rw (lt-ltb 0 w e)

pub record Last (n : ℕ) (ws : List ℕ) (w : ℕ) (x : Extent) : Type 0 where
  pub some : 0 < w
  pub meets : joinable n (slot ws (w - 1)) x ≡ true
  -- where it ends the other begins
  pub logical : (slot ws (w - 1)).logical + (slot ws (w - 1)).count ≡ x.logical

pub joins-last : (n : ℕ) (ws : List ℕ) (w : ℕ) (x : Extent) → joins_last n ws w x ≡ true → Last n ws w x
unfolding joins_last
joins-last n ws w x e =
    let s = and_split (nat_lt 0 w) (joinable n (slot ws (w - 1)) x) e in
    record { some = ltb-true 0 w s.0; meets = s.1; logical = sym (joinable-true n (slot ws (w - 1)) x s.1).logical }

-- it is joined: the last slot grows by its pages
pub pushed_joined : (n : ℕ) (ws ws' : List ℕ) (w : ℕ) (x a : Extent) → 3 * w + 2 < length ws → joins_last n ws w x ≡ true → a ≡ slot ws (w - 1)
    → ws' ≡ put_slot ws (w - 1) (extent a.logical a.physical (a.count + x.count)) → Pushed n ws w x ws' w
pushed_joined n ws ws' w x a l t is e =
    let last = joins-last n ws w x t in
    let j = w - 1 in
    let y = extent a.logical a.physical (a.count + x.count) in
    let back : w ≡ j + 1 = omega (arith, last.some) in
    let meets : joinable n a x ≡ true = ap (λ (z : Extent). joinable n z x) is ∙ last.meets in
    subst (λ (zs : List ℕ). Pushed n ws w x zs w) (sym e) record {
      done = ap (slots_from (put_slot ws j y) 0) back ∙ slots-more (put_slot ws j y) 0 j j (omega arith)
          ∙ ap₂ (λ (es : List Extent) (z : Extent). es ++ z ∷ [])
          (slots_same (put_slot ws j y) ws 0 j (λ k p q. put_slot_else ws j y k (λ b c. omega arith))) (put_slot_here ws j y (omega arith))
          ∙ sym (ap (λ (es : List Extent). push n es x) (ap (slots_from ws 0) back ∙ slots-more ws 0 j j (omega arith)
          ∙ ap (λ (z : Extent). slots_from ws 0 j ++ z ∷ []) (sym is)) ∙ push-last n (slots_from ws 0 j) a x
          ∙ ap (λ (es : List Extent). slots_from ws 0 j ++ es) (join-joined n a x [] meets));
      rest = λ k p. put_slot_else ws j y k (λ b c. omega (arith, last.some));
      few = omega arith;
    }

-- extent x goes behind the first w slots without being joined
abbrev pub Apart : ℕ → List ℕ → ℕ → Extent → Type 0
Apart n ws w x = push n (slots_from ws 0 w) x ≡ slots_from ws 0 w ++ x ∷ []

-- behind no slot, or behind one that it is not joinable with
pub push-apart : (n : ℕ) (ws : List ℕ) (w : ℕ) (x : Extent) → joins_last n ws w x ≡ false → Apart n ws w x
unfolding slots_from push
push-apart n ws zero x t = refl
push-apart n ws (suc j) x t =
    let e : joinable n (slot ws (suc j - 1)) x ≡ false = sym (joins-some n ws (suc j) x (omega arith)) ∙ t in
    let at : suc j - 1 ≡ j = omega arith in
    let e' : joinable n (slot ws j) x ≡ false = sym (ap (λ (k : ℕ). joinable n (slot ws k) x) at) ∙ e in
    let next : suc j ≡ j + 1 = omega arith in
    let more : slots_from ws 0 (suc j) ≡ slots_from ws 0 j ++ slot ws j ∷ [] = ap (slots_from ws 0) next ∙ slots-more ws 0 j j (omega arith) in
    ap (λ (es : List Extent). push n es x) more ∙ push-last n (slots_from ws 0 j) (slot ws j) x
    ∙ ap (λ (es : List Extent). slots_from ws 0 j ++ es) (join_apart n (slot ws j) x [] e')
    ∙ sym (ap (λ (es : List Extent). es ++ x ∷ []) more ∙ append_assoc (slots_from ws 0 j) (slot ws j ∷ []) (x ∷ []))

pub pushed_apart : (n : ℕ) (ws ws' : List ℕ) (w : ℕ) (x : Extent) → 3 * w + 2 < length ws → Apart n ws w x → ws' ≡ put_slot ws w x → Pushed n ws w x ws' (w + 1)
pushed_apart n ws ws' w x l t e = subst (λ (zs : List ℕ). Pushed n ws w x zs (w + 1)) (sym e) record {
  done = slots-more (put_slot ws w x) 0 w w (omega arith)
      ∙ ap₂ (λ (es : List Extent) (y : Extent). es ++ y ∷ []) (slots_same (put_slot ws w x) ws 0 w (λ k p q. put_slot_else ws w x k (λ a b. omega arith))) (put_slot_here ws w x l)
      ∙ sym t;
  rest = λ k p. put_slot_else ws w x k (λ a b. omega arith);
  few = omega arith;
}

-- slot i stands there already
pub pushed_there : (n : ℕ) (ws : List ℕ) (w i : ℕ) → i ≡ w → Apart n ws w (slot ws i) → Pushed n ws w (slot ws i) ws (w + 1)
pushed_there n ws w i e t = record { done = slots-more ws 0 w i (omega arith) ∙ sym t; rest = λ k p. refl; few = omega arith }

-- after i slots, each moved by g: w stand, joined, and the others are as they were
pub record Packed (g : ℕ → ℕ) (n : ℕ) (ws : List ℕ) (i : ℕ) (ws' : List ℕ) (w : ℕ) : Type 0 where
  pub done : slots_from ws' 0 w ≡ norm n (map (move g) (slots_from ws 0 i))
  pub rest : (k : ℕ) → 3 * i ≤ k → slice_index ws' k ≡ slice_index ws k
  pub few : w ≤ i

pub packed_start : (g : ℕ → ℕ) (n : ℕ) (ws : List ℕ) → Packed g n ws 0 ws 0
unfolding slots_from norm
packed_start g n ws = record { done = refl; rest = λ k h. refl; few = omega arith }

pub packed_slot : (g : ℕ → ℕ) (n : ℕ) (ws ws' : List ℕ) (i w : ℕ) → Packed g n ws i ws' w → slot ws' i ≡ slot ws i
packed_slot g n ws ws' i w h = slot_same ws' ws i (λ k a b. h.rest k a)

pub packed_ends : (g : ℕ → ℕ) (n : ℕ) (ws ws' : List ℕ) (i w u : ℕ) → Packed g n ws i ws' w → Ends ws u → i < u → end (slot ws' i) ≤ none
packed_ends g n ws ws' i w u h f l = omega (arith, f i l, ap end (packed_slot g n ws ws' i w h))

-- one slot more
pub moved_more : (g : ℕ → ℕ) (ws : List ℕ) (i : ℕ) → map (move g) (slots_from ws 0 (i + 1)) ≡ map (move g) (slots_from ws 0 i) ++ move g (slot ws i) ∷ []
moved_more g ws i = ap (map (move g)) (slots-more ws 0 i i (omega arith)) ∙ map-append (move g) (slots_from ws 0 i) (slot ws i ∷ [])

pub packed_step : (g : ℕ → ℕ) (n : ℕ) (ws ws' ws'' : List ℕ) (i w k : ℕ) → Packed g n ws i ws' w → Pushed n ws' w (move g (slot ws' i)) ws'' k
    → Packed g n ws (i + 1) ws'' k
packed_step g n ws ws' ws'' i w k h p = record {
  done = p.done ∙ ap₂ (push n) h.done (ap (move g) (packed_slot g n ws ws' i w h))
      ∙ sym (ap (norm n) (moved_more g ws i) ∙ norm-push n (map (move g) (slots_from ws 0 i)) (move g (slot ws i)));
  rest = λ j a. p.rest j (omega (arith, h.few)) ∙ h.rest j (omega arith);
  few = omega (arith, p.few, h.few);
}

pub packed_length : (g : ℕ → ℕ) (n : ℕ) (ws ws' : List ℕ) (i w : ℕ) → Packed g n ws i ws' w → w ≡ length (norm n (map (move g) (slots_from ws 0 i)))
packed_length g n ws ws' i w h = sym (slots_length ws' 0 w) ∙ ap length h.done

-- ---- zeros behind them: where slots stand no longer, and where none stood

-- zeros from a up to b
module _ (ws : List ℕ) (a b : ℕ) (s : a ≤ b) (l : b ≤ length ws) where
  abbrev gap : List ℕ
  gap = replicate (b - a) 0

  abbrev zeroed : List ℕ
  zeroed = sets ws a gap

  zeroed-put : (ys : List ℕ) → ys ≡ replicate (length (mid_of a (b - a) ws)) 0 → put_mid a (b - a) ws ys ≡ zeroed
  zeroed-put ys =
      let e : a + (b - a) ≡ b = omega arith in
      subst (λ (c : ℕ). ys ≡ replicate (length (mid_of a (c - a) ws)) 0 → put_mid a (c - a) ws ys ≡ zeroed) e (part_filled a (b - a) ws ys 0 (omega arith))

  zeroed-length : length zeroed ≡ length ws
  zeroed-length = length-sets ws a gap

  zeroed-front : (k : ℕ) → k < a → slice_index zeroed k ≡ slice_index ws k
  zeroed-front k t = sets_low 0 gap ws a k t

  zeroed-behind : ((k : ℕ) → b ≤ k → k < length ws → slice_index ws k ≡ 0) → (k : ℕ) → a ≤ k → k < length zeroed → slice_index zeroed k ≡ 0
  zeroed-behind z k p q =
      let m : length gap ≡ b - a = length-replicate (b - a) 0 in
      by_cases (dec_lt k b)
      (λ t. sets_in 0 gap ws a k (k - a) (omega arith) (omega arith) (omega arith) ∙ get_or-replicate (b - a) (k - a) 0 0 (omega arith))
      (λ t. sets_high 0 gap ws a k (omega arith) ∙ z k (omega arith) (omega (arith, zeroed-length)))

pub packed_end : (g : ℕ → ℕ) (n : ℕ) (ws ws' ys : List ℕ) (i w : ℕ) → 3 * i ≤ length ws → ((k : ℕ) → 3 * i ≤ k → k < length ws → slice_index ws k ≡ 0)
    → length ws' ≡ length ws → Packed g n ws i ws' w → ys ≡ replicate (length (mid_of (3 * w) (3 * i - 3 * w) ws')) 0
    → put_mid (3 * w) (3 * i - 3 * w) ws' ys ≡ padded (length ws) (norm n (map (move g) (slots_from ws 0 i)))
packed_end g n ws ws' ys i w l z m h e =
    let p : 3 * w ≤ 3 * i = omega (arith, h.few) in
    let q : 3 * i ≤ length ws' = omega arith in
    let ws'' = zeroed ws' (3 * w) (3 * i) p q in
    let size : length ws'' ≡ length ws' = zeroed-length ws' (3 * w) (3 * i) p q in
    zeroed-put ws' (3 * w) (3 * i) p q ys e
    ∙ (zeros-holds ws'' w (omega arith) (zeroed-behind ws' (3 * w) (3 * i) p q (λ k s t. h.rest k s ∙ z k s (omega arith)))).is
    ∙ ap₂ padded (size ∙ m) (slots_same ws'' ws' 0 w (λ k s t. zeroed-front ws' (3 * w) (3 * i) p q k (omega arith)) ∙ h.done)

-- all of it
pub moved-map : (ws : List ℕ) (u n : ℕ) (ranks : List ℕ) (v r : ℕ) → 0 < n → Ranks n (covered (slots_from ws 0 u) n v) ranks
    → norm n (map (move (ranked_page n ranks v r)) (slots_from ws 0 u)) ≡ remapped n v r (slots_from ws 0 u)
unfolding remapped
moved-map ws u n ranks v r z h = ap (norm n) (places-moved n ranks v r (covered (slots_from ws 0 u) n v) (slots_from ws 0 u) z h)
