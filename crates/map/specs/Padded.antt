-- Words that hold extents, three a slot, and zeros behind them; and what a store of one slot, an insertion and a removal make of them.
use Rattle.std.specs.Prelude.{ℕ, zero, suc, ◌+◌, ◌-◌, ◌*◌, ◌≤◌, ◌<◌, ◌≡◌, refl, get_or, take, set}
use Rattle.std.proofs.Math.Path.{sym, ap, ap₂}
use Rattle.std.proofs.Common.{◌∙◌, arith, length-append, length-drop, length-set, take-append-drop, ext_get_or, get_or-drop, take_all, take_at, take-take, drop_at, drop-drop, length-take-le}
use mathlib.Core.List.{List, [], ◌∷◌, ◌++◌, append_assoc, append-nil}
use borrow.Rule.Slice.PartMut.{mid_of, put_mid, mid_len}
use Rattle.std.proofs.Math.ListN.{length, drop, replicate}
use Rattle.std.proofs.lemmas.List.{length-replicate, get_or-replicate, replicate-append-replicate}
use Rattle.std.proofs.lemmas.List.Edits.{sets}
use Rattle.std.proofs.Math.Seq.{drop-append-add}
use Rattle.rules.specs.Extents.{put_slot, slots_from, flat}
use Rattle.rules.specs.Device.{Device, extents, words_of}
use Rattle.rules.specs.declared.Extent.{Extent}
use Rattle.laws.specs.Slots.{flat-length, flat_append, flat-take, flat-drop, slots-flat, flat-slots, slots_length, put_slot_sets}
use Rattle.words.specs.Parts.{up_put}

-- m words
unfoldable pub padded : ℕ → List Extent → List ℕ
padded m es = flat es ++ replicate (m - 3 * length es) 0

pub padded-length : (m : ℕ) (es : List Extent) → 3 * length es ≤ m → length (padded m es) ≡ m
unfolding padded
padded-length m es h = simp (length-append, flat-length, length-replicate) (omega arith)

pub padded-slots : (m : ℕ) (es : List Extent) → slots_from (padded m es) 0 (length es) ≡ es
unfolding padded
padded-slots m es = slots-flat es (replicate (m - 3 * length es) 0)

-- extents padded to the slots of a device are its words
pub padded-words : (d : Device) → padded (3 * d.slots) (extents d) ≡ (words_of d).extent_words
unfolding padded words_of
padded-words d =
    let e : 3 * d.slots - 3 * length (extents d) ≡ 3 * (d.slots - length (extents d)) = omega arith in
    ap (λ (k : ℕ). flat (extents d) ++ replicate k 0) e

-- pieces put in at slot i
unfoldable pub spliced : ℕ → List Extent → List Extent → List Extent
spliced i new es = take i es ++ (new ++ drop i es)

spliced-none : (i : ℕ) (es : List Extent) → es ≡ spliced i [] es
unfolding spliced
spliced-none i es = sym (take-append-drop i es)

pub spliced-length : (i : ℕ) (new es : List Extent) → i ≤ length es → length (spliced i new es) ≡ length es + length new
unfolding spliced
spliced-length i new es h =
    omega (arith, length-append (take i es) (new ++ drop i es), length-append new (drop i es), length-take-le i es h, length-drop i es)

pub spliced-seam : (i : ℕ) (new xs ys : List Extent) → length xs ≡ i → spliced i new (xs ++ ys) ≡ xs ++ (new ++ ys)
unfolding spliced
spliced-seam i new xs ys h = ap₂ (λ (a b : List Extent). a ++ (new ++ b)) (take_at xs ys i h) (drop_at xs ys i h)

-- the slots from a up to z taken out
abbrev pub without : ℕ → ℕ → List Extent → List Extent
without a z es = take a es ++ drop z es

pub without-length : (a z : ℕ) (es : List Extent) → a ≤ z → z ≤ length es → length (without a z es) + (z - a) ≡ length es
without-length a z es s t = omega (arith, length-append (take a es) (drop z es), length-take-le a es (omega arith), length-drop z es)

-- ---- words that hold the extents of their first u slots and nothing else

pub record Holds (ws : List ℕ) (u : ℕ) : Type 0 where
  pub fits : 3 * u ≤ length ws
  pub is : ws ≡ padded (length ws) (slots_from ws 0 u)

-- zeros stand behind them
pub zeros-holds : (ws : List ℕ) (u : ℕ) → 3 * u ≤ length ws → ((k : ℕ) → 3 * u ≤ k → k < length ws → get_or ws k 0 ≡ 0) → Holds ws u
unfolding padded
zeros-holds ws u h z =
    let rest : drop (3 * u) ws ≡ replicate (length ws - 3 * u) 0 =
    ext_get_or 0 (drop (3 * u) ws) (replicate (length ws - 3 * u) 0) (length-drop (3 * u) ws ∙ sym (length-replicate (length ws - 3 * u) 0))
    (λ i p. let s = length-drop (3 * u) ws in
    get_or-drop (3 * u) ws i 0 ∙ z (3 * u + i) (omega arith) (omega arith) ∙ sym (get_or-replicate (length ws - 3 * u) i 0 0 (omega arith))) in
    record {
      fits = h;
      is = sym (rw (flat-slots ws u h, slots_length) (ap (λ (r : List ℕ). take (3 * u) ws ++ r) (sym rest) ∙ take-append-drop (3 * u) ws));
    }

-- words that have become padded hold what they were padded with
module _ (m : ℕ) (es : List Extent) (ws : List ℕ) (u : ℕ) (e : ws ≡ padded m es) (n : length es ≡ u) (f : 3 * u ≤ m) where
  pub became_length : length ws ≡ m
  became_length = ap length e ∙ padded-length m es (omega arith)

  pub became_slots : slots_from ws 0 u ≡ es
  became_slots = ap₂ (λ (w : List ℕ) (k : ℕ). slots_from w 0 k) e (sym n) ∙ padded-slots m es

  pub became_holds : Holds ws u
  became_holds = record { fits = omega (arith, became_length); is = e ∙ ap₂ padded (sym became_length) (sym became_slots) }

-- m words that have come to hold es in their first r slots
pub record Becomes (m : ℕ) (es : List Extent) (ws : List ℕ) (r : ℕ) : Type 0 where
  pub is : ws ≡ padded m es
  pub used : r ≡ length es

-- m words that hold extents in u slots, of which those from a up to z are to go: the others are es
pub record Gapped (m : ℕ) (es : List Extent) (ws : List ℕ) (u a z : ℕ) : Type 0 where
  pub long : length ws ≡ m
  pub held : Holds ws u
  pub order : a ≤ z
  pub within : z ≤ u
  pub is : without a z (slots_from ws 0 u) ≡ es

-- ---- one slot stored

flat-set : (es : List Extent) (i k : ℕ) (e : Extent) (z : List ℕ) → i < length es → k ≡ 3 * i → sets (flat es ++ z) k (flat (e ∷ [])) ≡ flat (set es i e) ++ z
unfolding flat
flat-set [] i k e z h g = absurd (omega arith)
flat-set (x ∷ xs) zero k e z h g = let at : k ≡ 0 = omega arith in rw at
flat-set (x ∷ xs) (suc i) k e z h g =
    let at : k ≡ suc (suc (suc (k - 3))) = omega arith in
    rw at (ap (λ (r : List ℕ). x.logical ∷ x.physical ∷ x.count ∷ r) (flat-set xs i (k - 3) e z (omega arith) (omega arith)))

pub holds-put : (ws : List ℕ) (u i : ℕ) (e : Extent) → Holds ws u → i < u → put_slot ws i e ≡ padded (length ws) (set (slots_from ws 0 u) i e)
unfolding padded flat
holds-put ws u i e h s =
    let es = slots_from ws 0 u in
    let z : List ℕ = replicate (length ws - 3 * length es) 0 in
    put_slot_sets ws i e
    ∙ ap (λ (w : List ℕ). sets w (3 * i) (flat (e ∷ []))) h.is ∙ flat-set es i (3 * i) e z (omega (arith, slots_length ws 0 u)) refl
    ∙ ap (λ (n : ℕ). flat (set es i e) ++ replicate (length ws - 3 * n) 0) (sym (length-set es i e))

-- ---- slots moved

drop-same : (k r n x : ℕ) → n ≡ k + r → drop k (replicate n x) ≡ replicate r x
drop-same k r n x e =
    rw e (ap (drop k) (sym (replicate-append-replicate k r x)) ∙ drop_at (replicate k x) (replicate r x) k (length-replicate k x))

words-slots : (new : List ℕ) (k : ℕ) → length new ≡ 3 * k → new ≡ flat (slots_from new 0 k)
words-slots new k n = sym (flat-slots new k (omega arith) ∙ take_all (3 * k) new (omega arith))

module _ (ws : List ℕ) (u : ℕ) (h : Holds ws u) where
  abbrev es : List Extent
  es = slots_from ws 0 u

  abbrev m : ℕ
  m = length ws

  size : length es ≡ u
  size = slots_length ws 0 u

  front : (i : ℕ) → i ≤ u → take (3 * i) ws ≡ flat (take i es)
  unfolding padded
  front i s = ap (take (3 * i)) h.is ∙ flat-take i es (replicate (m - 3 * length es) 0) (omega (arith, size))

  back : (i : ℕ) → i ≤ u → drop (3 * i) ws ≡ flat (drop i es) ++ replicate (m - 3 * u) 0
  unfolding padded
  back i s =
      ap (drop (3 * i)) h.is ∙ flat-drop i es (replicate (m - 3 * length es) 0) (omega (arith, size))
      ∙ ap (λ (k : ℕ). flat (drop i es) ++ replicate (m - 3 * k) 0) size

  back-length : (i : ℕ) → length (flat (drop i es)) ≡ 3 * (u - i)
  back-length i = flat-length (drop i es) ∙ omega (arith, length-drop i es, size)

  laid_out : (xs ys : List Extent) (k : ℕ) → k ≡ m - 3 * length (xs ++ ys) → flat xs ++ (flat ys ++ replicate k 0) ≡ padded m (xs ++ ys)
  unfolding padded
  laid_out xs ys k e =
      sym (append_assoc (flat xs) (flat ys) (replicate k 0))
      ∙ ap₂ (λ (w : List ℕ) (j : ℕ). w ++ replicate j 0) (sym (flat_append xs ys)) e

  -- no slots put in
  pub holds-none : (i k : ℕ) (new : List ℕ) → k ≡ 0 → ws ≡ padded m (spliced i (slots_from new 0 k) es)
  unfolding slots_from
  holds-none i k new e = h.is ∙ ap (padded m) (spliced-none i es ∙ ap (λ (j : ℕ). spliced i (slots_from new 0 j) es) (sym e))

  -- k slots put in at i
  module _ (i k : ℕ) (new : List ℕ) (s : i ≤ u) (n : length new ≡ 3 * k) (f : 3 * (u + k) ≤ m) where
    abbrev pieces : List Extent
    pieces = slots_from new 0 k

    abbrev moved : List ℕ
    moved = flat (drop i es)

    abbrev room : ℕ
    room = 3 * (u + k) - 3 * i

    abbrev lent : List ℕ
    lent = mid_of (3 * i) room ws

    lent_length : length lent ≡ room
    lent_length = mid_len (3 * i) (3 * (u + k)) ws f

    moved_up : take (length lent - 3 * k) lent ≡ moved
    moved_up =
        let to : length lent - 3 * k ≡ 3 * (u - i) = omega (arith, lent_length) in
        ap (λ (j : ℕ). take j lent) to ∙ take-take (3 * (u - i)) room (drop (3 * i) ws) (omega arith)
        ∙ ap (take (3 * (u - i))) (back i s) ∙ take_at moved (replicate (m - 3 * u) 0) (3 * (u - i)) (back-length i)

    abbrev rest : List ℕ
    rest = replicate (m - 3 * (u + k)) 0

    behind : drop room (drop (3 * i) ws) ≡ rest
    behind =
        let to : room ≡ length moved + 3 * k = omega (arith, back-length i) in
        ap₂ (λ (j : ℕ) (t : List ℕ). drop j t) to (back i s) ∙ drop-append-add moved (replicate (m - 3 * u) 0) (3 * k)
        ∙ drop-same (3 * k) (m - 3 * (u + k)) (m - 3 * u) 0 (omega arith)

    more : m - 3 * (u + k) ≡ m - 3 * length (spliced i pieces es)
    more = omega (arith, spliced-length i pieces es (omega (arith, size)), slots_length new 0 k, size)

    -- as `shift_up` gives the part from there on back, and `put_words` its first words
    pub holds-insert : (ys zs : List ℕ) → ys ≡ take (3 * k) lent ++ take (length lent - 3 * k) lent → zs ≡ new
        → put_mid (3 * i) (3 * (i + k) - 3 * i) (put_mid (3 * i) room ws ys) zs ≡ padded m (spliced i pieces es)
    unfolding spliced
    holds-insert ys zs e g =
        up_put (3 * i) room (3 * (i + k) - 3 * i) (3 * k) ws ys zs (omega arith) (omega (arith, lent_length)) (omega arith) e
        ∙ ap₂ (λ (a b : List ℕ). a ++ b) (front i s) (ap₂ (λ (a b : List ℕ). a ++ b) (g ∙ words-slots new k n) (ap₂ (λ (a b : List ℕ). a ++ b) moved_up behind)
        ∙ sym (append_assoc (flat pieces) moved rest) ∙ ap (λ (t : List ℕ). t ++ rest) (sym (flat_append pieces (drop i es))))
        ∙ laid_out (take i es) (pieces ++ drop i es) (m - 3 * (u + k)) more

  -- f slots from a on stored
  pub holds-over : (a f : ℕ) (new zs : List ℕ) → a + f ≤ u → length new ≡ 3 * f → zs ≡ new
      → put_mid (3 * a) (3 * (a + f) - 3 * a) ws zs ≡ padded m (take a es ++ (slots_from new 0 f ++ drop (a + f) es))
  holds-over a f new zs s n g =
      let p1 = slots_from new 0 f in
      let at : 3 * a + (3 * (a + f) - 3 * a) ≡ 3 * (a + f) = omega arith in
      let rest : List ℕ = replicate (m - 3 * u) 0 in
      let behind : drop (3 * (a + f) - 3 * a) (drop (3 * a) ws) ≡ flat (drop (a + f) es) ++ rest =
      drop-drop (3 * (a + f) - 3 * a) (3 * a) ws ∙ ap (λ (j : ℕ). drop j ws) at ∙ back (a + f) s in
      let as_many : m - 3 * u ≡ m - 3 * length (take a es ++ (p1 ++ drop (a + f) es)) =
      omega (
        arith,
        length-append (take a es) (p1 ++ drop (a + f) es),
        length-append p1 (drop (a + f) es),
        length-take-le a es (omega (arith, size)),
        length-drop (a + f) es,
        slots_length new 0 f,
        size,
      ) in
      ap₂ (λ (x y : List ℕ). x ++ y) (front a (omega arith)) (ap₂ (λ (x y : List ℕ). x ++ y) (g ∙ words-slots new f n) behind
      ∙ sym (append_assoc (flat p1) (flat (drop (a + f) es)) rest) ∙ ap (λ (t : List ℕ). t ++ rest) (sym (flat_append p1 (drop (a + f) es))))
      ∙ laid_out (take a es) (p1 ++ drop (a + f) es) (m - 3 * u) as_many

  -- no slots taken out
  pub holds_same : (a z : ℕ) → a ≡ z → ws ≡ padded m (without a z es)
  holds_same a z e = h.is ∙ ap (padded m) (sym (take-append-drop a es) ∙ ap (λ (j : ℕ). take a es ++ drop j es) e)

  -- the slots from a up to z taken out
  module _ (a z : ℕ) (s : a ≤ z) (t : z ≤ u) where
    all : length (flat (drop a es)) ≡ 3 * u - 3 * a
    all = omega (arith, back-length a)

    lent_down : mid_of (3 * a) (3 * u - 3 * a) ws ≡ flat (drop a es)
    lent_down = ap (take (3 * u - 3 * a)) (back a (omega arith)) ∙ take_at (flat (drop a es)) (replicate (m - 3 * u) 0) (3 * u - 3 * a) all

    behind_down : drop (3 * u - 3 * a) (drop (3 * a) ws) ≡ replicate (m - 3 * u) 0
    behind_down = ap (drop (3 * u - 3 * a)) (back a (omega arith)) ∙ drop_at (flat (drop a es)) (replicate (m - 3 * u) 0) (3 * u - 3 * a) all

    kept : drop (3 * (z - a)) (flat (drop a es)) ≡ flat (drop z es)
    kept =
        let at : a + (z - a) ≡ z = omega arith in
        ap (drop (3 * (z - a))) (sym (append-nil (flat (drop a es))))
        ∙ flat-drop (z - a) (drop a es) [] (omega (arith, length-drop a es, size))
        ∙ append-nil (flat (drop (z - a) (drop a es)))
        ∙ ap flat (drop-drop (z - a) a es ∙ ap (λ (j : ℕ). drop j es) at)

    fewer : 3 * (z - a) + (m - 3 * u) ≡ m - 3 * length (take a es ++ drop z es)
    fewer = omega (arith, h.fits, length-append (take a es) (drop z es), length-take-le a es (omega (arith, size)), length-drop z es, size)

    -- as `shift_down` gives the part from a on back
    pub holds_close : (ys : List ℕ) → ys ≡ drop (3 * (z - a)) (mid_of (3 * a) (3 * u - 3 * a) ws) ++ replicate (3 * (z - a)) 0
        → put_mid (3 * a) (3 * u - 3 * a) ws ys ≡ padded m (without a z es)
    holds_close ys e =
        let gap : List ℕ = replicate (3 * (z - a)) 0 in
        let new : ys ≡ flat (drop z es) ++ gap = e ∙ ap (λ (w : List ℕ). drop (3 * (z - a)) w ++ gap) lent_down ∙ ap (λ (w : List ℕ). w ++ gap) kept in
        ap₂ (λ (x y : List ℕ). x ++ y) (front a (omega arith)) (ap₂ (λ (x y : List ℕ). x ++ y) new behind_down
        ∙ append_assoc (flat (drop z es)) gap (replicate (m - 3 * u) 0)
        ∙ ap (λ (w : List ℕ). flat (drop z es) ++ w) (replicate-append-replicate (3 * (z - a)) (m - 3 * u) 0))
        ∙ laid_out (take a es) (drop z es) (3 * (z - a) + (m - 3 * u)) fewer
