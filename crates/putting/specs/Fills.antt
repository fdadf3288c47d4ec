-- Pieces put into a gap, in place: what each step asks for, and what stands in the words at the end.
use Rattle.std.specs.Prelude.{ℕ, suc, ◌+◌, ◌-◌, ◌*◌, ◌≤◌, ◌<◌, ◌^◌, min, ◌≡◌, refl, Bool, true, false, length, take, drop, set}
use Rattle.std.proofs.Math.Path.{sym, ap, subst₂}
use Rattle.std.proofs.Common.{ap₂, ◌∙◌, length-append, length-drop, take-append-drop, take_at, drop-drop, length-take-le}
use mathlib.Core.List.{List, ◌∷◌, ◌++◌, append_assoc}
use native.Mathlib.Omega.{arith}
use borrow.Rule.Slice.PartMut.{put_mid}
use Rattle.std.proofs.Math.Seq.{drop-append-add}
use Rattle.rules.specs.Counting.{one}
use Rattle.rules.specs.Extents.{slot, put_slot, slots_from}
use Rattle.rules.specs.declared.Extent.{Extent}
use Rattle.laws.specs.Slots.{slots_length, slots-join, slots-part}
use Rattle.map.specs.Padded.{padded, spliced, spliced-length, spliced-seam, without, Holds, Becomes, became_length, became_slots, became_holds, holds-put, holds-over}
use Rattle.words.specs.Parts.{part_length}
use Rattle.map.specs.Clip.{at_slot}
use Rattle.putting.specs.Pieces.{longer, lengthened, lengthened-length, lengthened_append, put_in}

-- ---- a gap filled

-- the pieces from s up to k can come into the gap from slot a up to slot z
pub record Fillable (ws : List ℕ) (u a z : ℕ) (new : List ℕ) (s k : ℕ) : Type 0 where
  pub held : Holds ws u
  pub order : a ≤ z
  pub within : z ≤ u
  pub some : s ≤ k
  pub fits : 3 * k ≤ length new
  pub room : 3 * (u + (k - s)) ≤ length ws + 3 * (z - a)

module _ (ws : List ℕ) (u a z : ℕ) (new : List ℕ) (s k : ℕ) (p : Fillable ws u a z new s k) (f : ℕ) (e : f ≡ min (k - s) (z - a)) where
  abbrev es : List Extent
  es = slots_from ws 0 u

  size : length es ≡ u
  size = slots_length ws 0 u

  -- the pieces that are stored in the gap, and the slots in front of it with them
  abbrev first : List Extent
  first = slots_from new s f

  abbrev front : List Extent
  front = take a es ++ first

  front_length : length front ≡ a + f
  front_length = omega (arith, length-append (take a es) first, length-take-le a es (omega (arith, size, p.order, p.within)), slots_length new s f)

  -- ---- they are stored

  module _ (zs : List ℕ) (g : zs ≡ take (3 * (s + f) - 3 * s) (drop (3 * s) new)) where
    abbrev stored : List ℕ
    stored = put_mid (3 * a) (3 * (a + f) - 3 * a) ws zs

    over : stored ≡ padded (length ws) (front ++ drop (a + f) es)
    over =
        let part = take (3 * (s + f) - 3 * s) (drop (3 * s) new) in
        let many : length part ≡ 3 * f = part_length (3 * s) (3 * (s + f)) new (omega arith) (omega (arith, p.fits, p.some)) ∙ omega arith in
        holds-over ws u p.held a f part zs (omega (arith, p.order, p.within)) many g
        ∙ ap (λ (xs : List Extent). padded (length ws) (take a es ++ (xs ++ drop (a + f) es))) (slots-part new s f (3 * (s + f) - 3 * s) (omega arith) (omega (arith, p.fits, p.some)))
        ∙ ap (padded (length ws)) (sym (append_assoc (take a es) first (drop (a + f) es)))

    stored-many : length (front ++ drop (a + f) es) ≡ u
    stored-many = omega (arith, length-append front (drop (a + f) es), front_length, length-drop (a + f) es, size, p.order, p.within)

    stored-slots : slots_from stored 0 u ≡ front ++ drop (a + f) es
    stored-slots = became_slots (length ws) (front ++ drop (a + f) es) stored u over stored-many p.held.fits

    stored-length : length stored ≡ length ws
    stored-length = became_length (length ws) (front ++ drop (a + f) es) stored u over stored-many p.held.fits

    pub close_ready : Holds stored u × (a + f ≤ z) × (z ≤ u)
    close_ready = (
      became_holds (length ws) (front ++ drop (a + f) es) stored u over stored-many p.held.fits,
      omega (arith, p.order),
      p.within,
    )

    -- ---- what is left of the gap is closed

    module _ (ws₂ : List ℕ) (c : ws₂ ≡ padded (length stored) (without (a + f) z (slots_from stored 0 u))) where
      left : without (a + f) z (slots_from stored 0 u) ≡ front ++ drop z es
      left =
          let d = z - (a + f) in
          let at : length front + d ≡ z = omega (arith, front_length, p.order) in
          let on : a + f + d ≡ z = omega (arith, p.order) in
          ap (without (a + f) z) stored-slots
          ∙ ap₂ (λ (x y : List Extent). x ++ y) (take_at front (drop (a + f) es) (a + f) front_length)
          (ap (λ (j : ℕ). drop j (front ++ drop (a + f) es)) (sym at) ∙ drop-append-add front (drop (a + f) es) d
          ∙ drop-drop d (a + f) es ∙ ap (λ (j : ℕ). drop j es) on)

      closed : ws₂ ≡ padded (length ws) (front ++ drop z es)
      closed = c ∙ ap₂ padded stored-length left

      closed-many : length (front ++ drop z es) ≡ u - (z - (a + f))
      closed-many = omega (arith, length-append front (drop z es), front_length, length-drop z es, size, p.order, p.within)

      closed-fits : 3 * (u - (z - (a + f))) ≤ length ws
      closed-fits = omega (arith, p.held.fits)

      pub insert-ready : Holds ws₂ (u - (z - (a + f))) × (a + f ≤ u - (z - (a + f))) × (length (take (3 * k - 3 * (s + f)) (drop (3 * (s + f)) new)) ≡ 3 * (k - s - f))
          × (3 * (u - (z - (a + f)) + (k - s - f)) ≤ length ws₂)
      insert-ready = (
        became_holds (length ws) (front ++ drop z es) ws₂ (u - (z - (a + f))) closed closed-many closed-fits,
        omega (arith, p.order, p.within),
        part_length (3 * (s + f)) (3 * k) new (omega (arith, p.some)) p.fits ∙ omega arith,
        omega (arith, p.room, p.order, p.within, p.held.fits, became_length (length ws) (front ++ drop z es) ws₂ (u - (z - (a + f))) closed closed-many closed-fits),
      )

      pub gap-few : u - (z - (a + f)) + (k - s - f) ≤ length ws
      gap-few = omega (arith, p.room, p.order, p.within, p.held.fits)

      -- ---- the others are let in

      pub gap-filled : (ws₃ : List ℕ)
          → ws₃ ≡ padded (length ws₂) (spliced (a + f) (slots_from (take (3 * k - 3 * (s + f)) (drop (3 * (s + f)) new)) 0 (k - s - f)) (slots_from ws₂ 0 (u - (z - (a + f)))))
          → Becomes (length ws) (spliced a (slots_from new s (k - s)) (without a z es)) ws₃ (u - (z - (a + f)) + (k - s - f))
      gap-filled ws₃ g₃ =
          let all = slots_from new s (k - s) in
          let next = slots_from new (s + f) (k - s - f) in
          let long = became_length (length ws) (front ++ drop z es) ws₂ (u - (z - (a + f))) closed closed-many closed-fits in
          let now = became_slots (length ws) (front ++ drop z es) ws₂ (u - (z - (a + f))) closed closed-many closed-fits in
          let same : spliced (a + f) next (front ++ drop z es) ≡ spliced a all (without a z es) =
          spliced-seam (a + f) next front (drop z es) front_length
          ∙ append_assoc (take a es) first (next ++ drop z es)
          ∙ ap (λ (xs : List Extent). take a es ++ xs) (sym (append_assoc first next (drop z es)))
          ∙ ap (λ (xs : List Extent). take a es ++ (xs ++ drop z es)) (sym (slots-join new s f (k - s - f) (k - s) (s + f) (omega arith) refl))
          ∙ sym (spliced-seam a all (take a es) (drop z es) (length-take-le a es (omega (arith, size, p.order, p.within)))) in
          record {
            is = g₃
                ∙ ap₂ (λ (m : ℕ) (xs : List Extent). padded m (spliced (a + f) (slots_from (take (3 * k - 3 * (s + f)) (drop (3 * (s + f)) new)) 0 (k - s - f)) xs)) long now
                ∙ ap (λ (xs : List Extent). padded (length ws) (spliced (a + f) xs (front ++ drop z es)))
                (slots-part new (s + f) (k - s - f) (3 * k - 3 * (s + f)) (omega arith) (omega (arith, p.fits)))
                ∙ ap (padded (length ws)) same;
            used = omega (
              arith,
              ap length same,
              spliced-length (a + f) next (front ++ drop z es) (omega (arith, closed-many, p.order, p.within)),
              closed-many,
              slots_length new (s + f) (k - s - f),
            );
          }

-- ---- pieces put in

-- k new pieces can be put into the gap from slot a up to slot z
pub record Puttable (ws : List ℕ) (u a z : ℕ) (joined : Bool) (new : List ℕ) (k : ℕ) : Type 0 where
  pub held : Holds ws u
  pub order : a ≤ z
  pub within : z ≤ u
  pub some : 1 ≤ k
  pub fits : 3 * k ≤ length new
  pub room : 3 * (u + k) ≤ length ws + 3 * one joined + 3 * (z - a)
  pub joins : joined ≡ true → (1 ≤ a) × ((slot ws (a - 1)).count + (slot new 0).count < 2 ^ 32)

-- the extent before slot i with c pages more
pub lengthened-set : (ws : List ℕ) (u i c : ℕ) (x : Extent) (ws' : List ℕ) → Holds ws u → 1 ≤ i → i ≤ u → x ≡ slot ws (i - 1) → ws' ≡ put_slot ws (i - 1) (longer c x)
    → ws' ≡ padded (length ws) (lengthened i c (slots_from ws 0 u))
unfolding lengthened
lengthened-set ws u i c x ws' h s t y g =
    let e : i ≡ suc (i - 1) = omega arith in
    rw e (g ∙ holds-put ws u (i - 1) (longer c x) h (omega arith)
    ∙ ap (λ (z : Extent). padded (length ws) (set (slots_from ws 0 u) (i - 1) (longer c z))) (y ∙ sym (at_slot ws u (i - 1) (omega arith))))

first_piece : (new : List ℕ) (k : ℕ) → 1 ≤ k → slots_from new 0 k ≡ slot new 0 ∷ slots_from new 1 (k - 1)
unfolding slots_from
first_piece new k h = let e : k ≡ suc (k - 1) = omega arith in ap (slots_from new 0) e

module _ (ws : List ℕ) (u a z : ℕ) (joined : Bool) (new : List ℕ) (k : ℕ) (p : Puttable ws u a z joined new k) where
  abbrev old : List Extent
  old = slots_from ws 0 u

  -- no piece is joined
  module _ (j : joined ≡ false) where
    pub apart_ready : Fillable ws u a z new 0 k
    apart_ready = record {
      held = p.held;
      order = p.order;
      within = p.within;
      some = omega arith;
      fits = p.fits;
      room = omega (arith, p.room, ap one j);
    }

    pub apart-done : (ws' : List ℕ) (r : ℕ) → Becomes (length ws) (spliced a (slots_from new 0 (k - 0)) (without a z old)) ws' r
        → Becomes (length ws) (put_in a joined (slots_from new 0 k) (without a z old)) ws' r
    unfolding put_in
    apart-done ws' r h = let e : k - 0 ≡ k = omega arith in rw (j, ← e) h

  -- the first is
  module _ (j : joined ≡ true) where
    pub joined-ready : Holds ws u × (1 ≤ a) × (a ≤ u) × ((slot ws (a - 1)).count + (slot new 0).count < 2 ^ 32)
    joined-ready = let q = p.joins j in (p.held, q.0, omega (arith, p.order, p.within), q.1)

    module _ (mid : List ℕ) (g : mid ≡ padded (length ws) (lengthened a (slot new 0).count old)) where
      as_many : length (lengthened a (slot new 0).count old) ≡ u
      as_many = lengthened-length a (slot new 0).count old ∙ slots_length ws 0 u

      words : length mid ≡ length ws
      words = became_length (length ws) (lengthened a (slot new 0).count old) mid u g as_many p.held.fits

      pub joined-next : Fillable mid u a z new 1 k
      joined-next = record {
        held = became_holds (length ws) (lengthened a (slot new 0).count old) mid u g as_many p.held.fits;
        order = p.order;
        within = p.within;
        some = p.some;
        fits = p.fits;
        room = omega (arith, p.some, p.room, ap one j, words);
      }

      -- the gap lies behind the extent that is made longer
      longer-without : without a z (lengthened a (slot new 0).count old) ≡ lengthened a (slot new 0).count (without a z old)
      longer-without =
          let c = (slot new 0).count in
          let few : length (take a old) ≡ a = length-take-le a old (omega (arith, slots_length ws 0 u, p.order, p.within)) in
          let front : length (lengthened a c (take a old)) ≡ a = lengthened-length a c (take a old) ∙ few in
          let split : lengthened a c old ≡ lengthened a c (take a old) ++ drop a old =
          ap (lengthened a c) (sym (take-append-drop a old)) ∙ lengthened_append a c (take a old) (drop a old) (omega arith) in
          let at : length (lengthened a c (take a old)) + (z - a) ≡ z = omega (arith, p.order) in
          let on : a + (z - a) ≡ z = omega (arith, p.order) in
          ap₂ (λ (x y : List Extent). x ++ y)
          (ap (take a) split ∙ take_at (lengthened a c (take a old)) (drop a old) a front)
          (ap (drop z) split ∙ ap (λ (i : ℕ). drop i (lengthened a c (take a old) ++ drop a old)) (sym at)
          ∙ drop-append-add (lengthened a c (take a old)) (drop a old) (z - a) ∙ drop-drop (z - a) a old ∙ ap (λ (i : ℕ). drop i old) on)
          ∙ sym (lengthened_append a c (take a old) (drop z old) (omega arith))

      pub joined-done : (ws' : List ℕ) (r : ℕ) → Becomes (length mid) (spliced a (slots_from new 1 (k - 1)) (without a z (slots_from mid 0 u))) ws' r
          → Becomes (length ws) (put_in a joined (slots_from new 0 k) (without a z old)) ws' r
      unfolding put_in
      joined-done ws' r h =
          let e : spliced a (slots_from new 1 (k - 1)) (without a z (slots_from mid 0 u)) ≡ put_in a joined (slots_from new 0 k) (without a z old) =
          ap (λ (xs : List Extent). spliced a (slots_from new 1 (k - 1)) (without a z xs))
          (became_slots (length ws) (lengthened a (slot new 0).count old) mid u g as_many p.held.fits)
          ∙ ap (spliced a (slots_from new 1 (k - 1))) longer-without
          ∙ sym (ap₂ (λ (b : Bool) (xs : List Extent). put_in a b xs (without a z old)) j (first_piece new k p.some)) in
          subst₂ (λ (m : ℕ) (xs : List Extent). Becomes m xs ws' r) words e h
