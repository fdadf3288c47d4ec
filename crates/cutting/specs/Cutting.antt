-- A cut in place, step by step: what each step asks for, and what stands in the words at the end.
use Rattle.std.specs.Prelude.{ℕ, ◌+◌, ◌-◌, ◌*◌, ◌≤◌, ◌<◌, ◌≡◌, List, length, get_or}
use Rattle.std.proofs.Common.{sym, ap, ◌∙◌, subst, arith, take-append-drop}
use Rattle.rules.specs.Extents.{end, slot, slots_from}
use Rattle.rules.specs.declared.Extent.{Extent}
use Rattle.laws.specs.Cut.{cut}
use Rattle.laws.specs.Slots.{blank, slots_length}
use Rattle.laws.specs.Counts.{starts_before, ends_after, cut-length, cut-bound}
use Rattle.map.specs.Sound.{SoundMap, Piece, sound-piece}
use Rattle.map.specs.Around.{starts_le, ends_le}
use Rattle.map.specs.Padded.{padded, without, Holds, Gapped, became_length, became_slots, became_holds}
use Rattle.map.specs.Clip.{clip_right, clip_left, split_at, clip_right-length, clip_left-length, right-at, at_slot, sound-starts, sound-ends, cut_apart, cut_split}

-- l up to e can be cut out of the extents in u slots
pub record Cuttable (ws : List ℕ) (u l e : ℕ) : Type 0 where
  pub held : Holds ws u
  pub sound : SoundMap (slots_from ws 0 u)
  pub range : l < e
  pub room : 3 * length (cut l e (slots_from ws 0 u)) ≤ length ws

-- of them, `before` start before l and `after` end after e begins
module _ (ws : List ℕ) (u l e before after : ℕ) (k : Cuttable ws u l e) (b : before ≡ starts_before l (slots_from ws 0 u)) (t : after ≡ ends_after e (slots_from ws 0 u)) where
  abbrev es : List Extent
  es = slots_from ws 0 u

  abbrev z : ℕ
  z = u - after

  h : Holds ws u
  h = k.held

  s : SoundMap es
  s = k.sound

  r : l < e
  r = k.range

  size : length es ≡ u
  size = slots_length ws 0 u

  count : length (cut l e es) ≡ before + after
  count = cut-length s.pages s.logical l e es s.rows ∙ omega arith

  most : before + after ≤ u + 1
  most = omega (arith, count, size, cut-bound l e es (omega arith))

  pub after_le : after ≤ u
  after_le = ends_le e ws u after t

  before_le : before ≤ u
  before_le = starts_le l ws u before b

  rest : z + ends_after e es ≡ u
  rest = omega (arith, after_le)

  -- ---- one extent on both sides

  pub split_ready : z < before
      → Holds ws u × (z < u) × (3 * u + 3 ≤ length ws) × ((slot ws z).logical < l) × (l < e) × (e < end (slot ws z)) × Piece (slot ws z)
  split_ready a =
      let in_use_lem : z < u = omega (arith, before_le) in (
        h,
        in_use_lem,
        omega (arith, k.room, count, most, after_le),
        sound-starts ws u s l z (omega arith),
        r,
        sound-ends ws u s e z rest in_use_lem,
        sound-piece ws u s z in_use_lem,
      )

  -- the right part stands behind the left one, and nothing is to go
  pub split_done : z < before → (ws' : List ℕ) → ws' ≡ padded (length ws) (split_at l e z es) → Gapped (length ws) (cut l e es) ws' (u + 1) before before
  split_done a ws' g =
      let left : ws' ≡ padded (length ws) (cut l e es) =
      g ∙ ap (padded (length ws)) (cut_split s.pages s.logical l e es before z s.rows b (rest ∙ sym size) (omega (arith, most, after_le))) in
      let many : length (cut l e es) ≡ u + 1 = omega (arith, count, most, after_le) in
      let fits : 3 * (u + 1) ≤ length ws = omega (arith, k.room) in
      record {
        long = became_length (length ws) (cut l e es) ws' (u + 1) left many fits;
        held = became_holds (length ws) (cut l e es) ws' (u + 1) left many fits;
        order = omega arith;
        within = omega (arith, before_le);
        is = take-append-drop before (slots_from ws' 0 (u + 1)) ∙ became_slots (length ws) (cut l e es) ws' (u + 1) left many fits;
      }

  -- ---- extents of its own on each side

  pub right-ready : before ≤ z → Holds ws u × (before ≤ u) × ((i : ℕ) → i + 1 ≡ before → (slot ws i).logical < l)
  right-ready a = (h, before_le, λ i g. sound-starts ws u s l i (omega arith))

  module _ (a : before ≤ z) (mid : List ℕ) (g : mid ≡ padded (length ws) (clip_right l before es)) where
    clipped : length (clip_right l before es) ≡ u
    clipped = clip_right-length l before es ∙ size

    mid-holds : Holds mid u
    mid-holds = became_holds (length ws) (clip_right l before es) mid u g clipped h.fits

    mid-slots : slots_from mid 0 u ≡ clip_right l before es
    mid-slots = became_slots (length ws) (clip_right l before es) mid u g clipped h.fits

    -- slot z is as it was
    same : z < u → slot ws z ≡ slot mid z
    same p =
        sym (at_slot ws u z p) ∙ sym (right-at l before z es a) ∙ ap (λ (xs : List Extent). get_or xs z blank) (sym mid-slots) ∙ at_slot mid u z p

    pub left-ready : Holds mid u × (z < u → Piece (slot mid z) × (e < end (slot mid z)))
    left-ready = (
      mid-holds,
      λ p. subst (λ (x : Extent). Piece x × (e < end x)) (same p) (sound-piece ws u s z p, sound-ends ws u s e z rest p),
    )

    module _ (mid₂ : List ℕ) (g₂ : mid₂ ≡ padded (length mid) (clip_left e z (slots_from mid 0 u))) where
      both : length (clip_left e z (slots_from mid 0 u)) ≡ u
      both = clip_left-length e z (slots_from mid 0 u) ∙ slots_length mid 0 u

      pub cut-done : Gapped (length ws) (cut l e es) mid₂ u before z
      cut-done =
          let held : slots_from mid₂ 0 u ≡ clip_left e z (clip_right l before es) =
          became_slots (length mid) (clip_left e z (slots_from mid 0 u)) mid₂ u g₂ both mid-holds.fits ∙ ap (clip_left e z) mid-slots in
          record {
            long =
                became_length (length mid) (clip_left e z (slots_from mid 0 u)) mid₂ u g₂ both mid-holds.fits
                ∙ became_length (length ws) (clip_right l before es) mid u g clipped h.fits;
            held = became_holds (length mid) (clip_left e z (slots_from mid 0 u)) mid₂ u g₂ both mid-holds.fits;
            order = a;
            within = omega arith;
            is = ap (without before z) held ∙ cut_apart s.pages s.logical l e es before z s.rows b (rest ∙ sym size) a;
          }
