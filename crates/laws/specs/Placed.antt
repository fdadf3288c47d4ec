-- Pages put one at a time, each into a block that is open when its page comes. Which blocks these are is not known here.
use Rattle.std.specs.Prelude.{ℕ, zero, suc, ◌+◌, ◌*◌, ◌/◌, ◌≤◌, ◌<◌, ◌≡◌, List, [], ◌∷◌, length, get_or, set}
use Rattle.std.proofs.Math.Path.{refl, sym}
use Rattle.std.proofs.Common.{ap, ◌∙◌, arith}
use Rattle.std.proofs.Math.Logic.{by_cases}
use Rattle.std.proofs.Math.Decide.{dec_lt, ℕ_discrete}
use Rattle.std.proofs.Math.Arith.{digits_lt, digits_div}
use Rattle.std.proofs.Math.ListN.{length-set, get_or-eq_default}
use Rattle.std.proofs.lemmas.List.Edits.{sets}
use Rattle.std.proofs.Math.Seq.{get_or-set_same, get_or-set_other}
use Rattle.rules.specs.Extents.{none}
use Rattle.rules.specs.Device.{Device, blocks, lines, at, fill, label, room, free}
use Rattle.rules.specs.Placement.{put_at, puts_at, places_at}
use Rattle.laws.specs.Sums.{sum_change}
use Rattle.laws.specs.Device.{Home, SoundDevice, Blank, same_block, same-offset, page_lt, offset_lt}
use Rattle.laws.specs.Balance.{room-other, room-reserve}

-- ---- the block that takes the next page

-- what any placement keeps to
pub record Open (d : Device) (b : ℕ) : Type 0 where
  pub inside : b < blocks d
  pub other : b ≡ d.reserve → ⊥
  pub below : fill d b < d.pages

pub room_open : (d : Device) (b : ℕ) → b < blocks d → 0 < room d b → Open d b
room_open d b h r =
    let other : b ≡ d.reserve → ⊥ = λ e. omega (arith, room-reserve d, ap (room d) e) in
    record { inside = h; other = other; below = omega (arith, room-other d b other) }

-- ---- one page

module _ (d : Device) (s : SoundDevice d) (b : ℕ) (v : Open d b) (l : ℕ) (a : l < lines d) where
  pub put-pages : (put_at b l d).pages ≡ d.pages
  unfolding put_at
  put-pages = refl

  pub put-reserve : (put_at b l d).reserve ≡ d.reserve
  unfolding put_at
  put-reserve = refl

  pub put-blocks : blocks (put_at b l d) ≡ blocks d
  unfolding put_at
  put-blocks = length-set d.fills b (suc (fill d b))

  pub put-lines : lines (put_at b l d) ≡ lines d
  unfolding put_at
  put-lines = length-set d.table l (b * d.pages + fill d b)

  pub put-at : at (put_at b l d) l ≡ b * d.pages + fill d b
  unfolding put_at
  put-at = get_or-set_same d.table l (b * d.pages + fill d b) none a

  pub put_at-other : (k : ℕ) → (k ≡ l → ⊥) → at (put_at b l d) k ≡ at d k
  unfolding put_at
  put_at-other k e = get_or-set_other d.table l k (b * d.pages + fill d b) none e

  pub put_fill : fill (put_at b l d) b ≡ suc (fill d b)
  unfolding put_at
  put_fill = get_or-set_same d.fills b (suc (fill d b)) 0 v.inside

  pub put_fill-other : (c : ℕ) → (c ≡ b → ⊥) → fill (put_at b l d) c ≡ fill d c
  unfolding put_at
  put_fill-other c e = get_or-set_other d.fills b c (suc (fill d b)) 0 e

  -- cells of the device, labels or contents, with x stored at the page that is taken
  module _ {A : Type 0} (z x : A) (xs : List A) where
    pub stored_in : length xs ≡ blocks d * d.pages → get_or (set xs (b * d.pages + fill d b) x) (b * d.pages + fill d b) z ≡ x
    stored_in w =
        get_or-set_same xs (b * d.pages + fill d b) x z
        (omega (arith, digits_lt {q = b} {m = blocks d} {r = fill d b} {c = d.pages} v.inside v.below))

    pub stored_other : (c o : ℕ) → o < d.pages → (c ≡ b → o ≡ fill d b → ⊥) → get_or (set xs (b * d.pages + fill d b) x) (c * d.pages + o) z ≡ get_or xs (c * d.pages + o) z
    stored_other c o h e =
        get_or-set_other xs (b * d.pages + fill d b) (c * d.pages + o) x z
        (λ g. e (same_block d.pages c b o (fill d b) h v.below g) (same-offset d.pages c b o (fill d b) h v.below g))

    -- the cell of a mapped page stays, for it is programmed
    pub stored-kept : (k : ℕ) → (at d k ≡ none → ⊥) → get_or (set xs (b * d.pages + fill d b) x) (at d k) z ≡ get_or xs (at d k) z
    stored-kept k m =
        let h = s.home k m in
        ap (λ (p : ℕ). get_or (set xs (b * d.pages + fill d b) x) p z) h.is
        ∙ stored_other h.block h.offset (offset_lt d s k m) (λ f g. omega (arith, h.below, ap (fill d) f))
        ∙ sym (ap (λ (p : ℕ). get_or xs p z) h.is)

    pub stored-blank : Blank z xs d → Blank z (set xs (b * d.pages + fill d b) x) (put_at b l d)
    stored-blank y c o h k i =
        let h' : c < blocks d = rw put-blocks at h in
        let i' : o < d.pages = rw put-pages at i in
        rw put-pages (by_cases (ℕ_discrete c b)
        (λ e. let t : fill d c < o = omega (arith, ap (fill (put_at b l d)) e, put_fill, ap (fill d) e) in
        stored_other c o i' (λ f g. omega (arith, ap (fill d) e)) ∙ y c o h' (omega arith) i')
        (λ e. stored_other c o i' (λ f g. e f) ∙ y c o h' (omega (arith, put_fill-other c e)) i'))

  put-label : label (put_at b l d) (b * d.pages + fill d b) ≡ l
  unfolding put_at
  put-label = stored_in none l d.spare s.whole

  put-label-other : (c o : ℕ) → o < d.pages → (c ≡ b → o ≡ fill d b → ⊥) → label (put_at b l d) (c * d.pages + o) ≡ label d (c * d.pages + o)
  unfolding put_at
  put-label-other c o h e = stored_other none l d.spare c o h e

  put-label-kept : (k : ℕ) → (at d k ≡ none → ⊥) → label (put_at b l d) (at d k) ≡ label d (at d k)
  unfolding put_at
  put-label-kept k m = stored-kept none l d.spare k m

  put-blank : Blank none (put_at b l d).spare (put_at b l d)
  unfolding put_at
  put-blank = stored-blank none l d.spare s.blank

  put-home : (k : ℕ) → (at (put_at b l d) k ≡ none → ⊥) → Home (put_at b l d) k (at (put_at b l d) k)
  put-home k m =
      by_cases (ℕ_discrete k l)
      (λ e. rw e (rw put-at (record { block = b; offset = fill d b; is = rw put-pages; inside = rw put-blocks v.inside; below = rw put_fill (omega arith); labelled = put-label })))
      (λ e. let m' : at d k ≡ none → ⊥ = λ g. m (put_at-other k e ∙ g) in
      let h = s.home k m' in
      rw (put_at-other k e) (record {
        block = h.block;
        offset = h.offset;
        is = rw put-pages h.is;
        inside = rw put-blocks h.inside;
        below = by_cases (ℕ_discrete h.block b)
            (λ g. rw (g, put_fill) (omega (arith, h.below, ap (fill d) g)))
            (λ g. rw (put_fill-other h.block g) h.below);
        labelled = put-label-kept k m' ∙ h.labelled;
      }))

  put_whole : length (put_at b l d).spare ≡ blocks (put_at b l d) * (put_at b l d).pages
  unfolding put_at
  put_whole = length-set d.spare (b * d.pages + fill d b) l ∙ s.whole ∙ sym (ap (λ (x : ℕ). x * d.pages) put-blocks)

  put-labels : (c o : ℕ) → c < blocks d → o < fill (put_at b l d) c → label (put_at b l d) (c * (put_at b l d).pages + o) < lines (put_at b l d)
  put-labels c o h k =
      rw (put-lines, put-pages) (by_cases (ℕ_discrete c b)
      (λ e. by_cases (ℕ_discrete o (fill d b))
      (λ g. rw (e, g, put-label) a)
      (λ g. let t : o < fill d c = omega (arith, ap (fill (put_at b l d)) e, put_fill, ap (fill d) e) in
      rw (put-label-other c o (omega (arith, s.full c h)) (λ _ x. g x)) (s.labels c o h t)))
      (λ e. let t : o < fill d c = omega (arith, put_fill-other c e) in
      rw (put-label-other c o (omega (arith, s.full c h)) (λ x _. e x)) (s.labels c o h t)))

  pub put-sound : SoundDevice (put_at b l d)
  put-sound = record {
    some = rw put-pages s.some;
    words = rw (put-blocks, put-pages) s.words;
    whole = put_whole;
    full = λ c h. rw put-pages (by_cases (ℕ_discrete c b)
        (λ e. rw (e, put_fill) v.below)
        (λ e. rw (put_fill-other c e) (s.full c (rw put-blocks at h))));
    labels = λ c o h k. put-labels c o (rw put-blocks at h) k;
    blank = put-blank;
    home = put-home;
    kept = rw (put-blocks, put-reserve) s.kept;
    empty = rw put-reserve (put_fill-other d.reserve (λ e. v.other (sym e)) ∙ s.empty);
  }

  pub put-room : room (put_at b l d) b + 1 ≡ room d b
  put-room =
      omega (arith, room-other (put_at b l d) b (λ e. v.other (e ∙ put-reserve)), room-other d b v.other, put_fill, put-pages, v.below)

  put-room-other : (c : ℕ) → (c ≡ b → ⊥) → room (put_at b l d) c ≡ room d c
  unfolding room
  put-room-other c e = rw (put-reserve, put-pages, put_fill-other c e)

  pub put-free : free (put_at b l d) + 1 ≡ free d
  unfolding free
  put-free =
      rw put-blocks (omega (arith, put-room, sum_change (blocks d) (room (put_at b l d)) (room d) b v.inside (λ c h e. put-room-other c e)))

-- ---- several pages, into the listed blocks

-- each block is open when its page comes
abbrev pub Opens : ℕ → List ℕ → Device → Type 0
Opens l [] d = Unit {0}
Opens l (b ∷ bs) d = Open d b × Opens (suc l) bs (put_at b l d)

pub puts-table : (l : ℕ) (bs : List ℕ) (d : Device) → (puts_at l bs d).table ≡ sets d.table l (places_at l bs d)
unfolding puts_at places_at put_at
puts-table l [] d = refl
puts-table l (b ∷ bs) d = puts-table (suc l) bs (put_at b l d)

pub puts-pages : (l : ℕ) (bs : List ℕ) (d : Device) → (puts_at l bs d).pages ≡ d.pages
unfolding puts_at put_at
puts-pages l [] d = refl
puts-pages l (b ∷ bs) d = puts-pages (suc l) bs (put_at b l d)

pub puts-slots : (l : ℕ) (bs : List ℕ) (d : Device) → (puts_at l bs d).slots ≡ d.slots
unfolding puts_at put_at
puts-slots l [] d = refl
puts-slots l (b ∷ bs) d = puts-slots (suc l) bs (put_at b l d)

pub puts-reserve : (l : ℕ) (bs : List ℕ) (d : Device) → (puts_at l bs d).reserve ≡ d.reserve
unfolding puts_at put_at
puts-reserve l [] d = refl
puts-reserve l (b ∷ bs) d = puts-reserve (suc l) bs (put_at b l d)

pub length-places : (l : ℕ) (bs : List ℕ) (d : Device) → length (places_at l bs d) ≡ length bs
unfolding places_at
length-places l [] d = refl
length-places l (b ∷ bs) d = ap suc (length-places (suc l) bs (put_at b l d))

pub record Puts (d e : Device) (n : ℕ) : Type 0 where
  pub sound : SoundDevice e
  pub blocks : length e.fills ≡ length d.fills
  pub lines : length e.table ≡ length d.table
  pub free : free e + n ≡ free d

pub put_one : (b l : ℕ) (d : Device) → SoundDevice d → Open d b → l < lines d → Puts d (put_at b l d) 1
put_one b l d s v h = record { sound = put-sound d s b v l h; blocks = put-blocks d s b v l h; lines = put-lines d s b v l h; free = put-free d s b v l h }

pub puts-sound : (l : ℕ) (bs : List ℕ) (d : Device) → SoundDevice d → Opens l bs d → l + length bs ≤ lines d → Puts d (puts_at l bs d) (length bs)
unfolding puts_at
puts-sound l [] d s v h = record { sound = s; blocks = refl; lines = refl; free = omega arith }
puts-sound l (b ∷ bs) d s v h =
    let p = put_one b l d s v.0 (omega arith) in
    let r = puts-sound (suc l) bs (put_at b l d) p.sound v.1 (omega (arith, p.lines)) in
    record { sound = r.sound; blocks = r.blocks ∙ p.blocks; lines = r.lines ∙ p.lines; free = omega (arith, r.free, p.free) }

-- the i-th page lies in the i-th block
pub places-block : (l : ℕ) (bs : List ℕ) (d : Device) → Opens l bs d → (i : ℕ) → i < length bs → get_or (places_at l bs d) i none / d.pages ≡ get_or bs i 0
unfolding places_at put_at
places-block l [] d v i t = absurd (omega arith)
places-block l (b ∷ bs) d v zero t = digits_div b v.0.below
places-block l (b ∷ bs) d v (suc i) t = places-block (suc l) bs (put_at b l d) v.1 i (omega arith)

pub places_lt : (l : ℕ) (bs : List ℕ) (d : Device) → SoundDevice d → Opens l bs d → l + length bs ≤ lines d → (i : ℕ) → i < length bs → get_or (places_at l bs d) i none < none
unfolding places_at
places_lt l [] d s v h i t = absurd (omega arith)
places_lt l (b ∷ bs) d s v h zero t = page_lt d s b (fill d b) v.0.inside v.0.below
places_lt l (b ∷ bs) d s v h (suc i) t =
    let p = put_one b l d s v.0 (omega arith) in
    places_lt (suc l) bs (put_at b l d) p.sound v.1 (omega (arith, p.lines)) i (omega arith)

pub places-small : (l : ℕ) (bs : List ℕ) (d : Device) → SoundDevice d → Opens l bs d → l + length bs ≤ lines d → (i : ℕ) → get_or (places_at l bs d) i none ≤ none
places-small l bs d s v h i =
    by_cases (dec_lt i (length bs))
    (λ t. omega (arith, places_lt l bs d s v h i t))
    (λ t. omega (arith, get_or-eq_default (places_at l bs d) none {n = i} (omega (arith, length-places l bs d))))
