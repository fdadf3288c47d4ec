-- From a sound state to its plain device and back: a state is sound exactly when it is the words of its own device and that device is storable.
use Rattle.std.specs.Prelude.{ℕ, ◌+◌, ◌-◌, ◌*◌, ◌/◌, ◌%◌, ◌≤◌, ◌<◌, true, ◌≡◌, refl, List, ◌++◌, ◌↔◌, eqb, drop}
use Rattle.std.proofs.Common.{sym, ap₂, ◌∙◌, subst₂, div-add-mod', div-lt_iff_lt-mul, length-drop, take-append-drop, ext_get_or, get_or-drop}
use Rattle.std.proofs.Math.Path.{ap, subst}
use Rattle.std.proofs.Math.Logic.{by_cases}
use native.Mathlib.Omega.{arith}
use Rattle.std.proofs.Math.Decide.{dec_lt, ℕ_discrete}
use Rattle.std.proofs.Math.Arith.{digits_div, digits_mod, digits_lt}
use Rattle.std.proofs.Math.ListN.{length, get_or, replicate, length-append, length-replicate, get_or-eq_default}
use Rattle.std.proofs.Math.Seq.{get_or-append-add}
use Rattle.rules.specs.Counting.{sum, count, tabulate}
use Rattle.rules.specs.Extents.{none, lookup, flat}
use Rattle.rules.specs.Lent.{Lent, slot_of, in_use, fill_of, valid_of, label_of}
use Rattle.rules.specs.Shape.{shaped}
use Rattle.rules.specs.Sound.{sound}
use Rattle.rules.specs.Device.{Device, blocks, lines, at, fill, valid, extents, table_of, device_of, head_of, words_of}
use Rattle.rules.specs.declared.Extent.{Extent}
use Rattle.laws.specs.Sums.{count_same}
use Rattle.laws.specs.Cells.{length-tabulate, get_or-tabulate, replicate-at}
use Rattle.laws.specs.Rows.{Rows}
use Rattle.laws.specs.Runs.{WordLines, runs-rows, runs-lookup, runs-again}
use Rattle.laws.specs.Slots.{slots_length, flat-length, slots-flat, flat-slots}
use Rattle.laws.specs.Records.{records-length, records-fill, records-valid, words-records}
use Rattle.laws.specs.Device.{Home, SoundDevice, page_lt, none-block, offset_lt}
use Rattle.laws.specs.Balance.{valid-lines}
use Rattle.laws.specs.Sound.{Shaped, SoundState, Storable, pages_in}
use Rattle.laws.specs.Shapes.{some-pages, pages_fit, shaped-true, true-shaped}
use Rattle.laws.specs.Ranked.{rows-one, slot-lookup, lookup-held, rows-ranked}
use Rattle.laws.specs.Sounds.{Page, state-page, sound-state, ranked-sound}
use Rattle.laws.specs.Tallies.{in_slots}

-- ---- the device of a state

pub device-lines : (s : Lent) → lines (device_of s) ≡ s.head.logical
unfolding device_of table_of
device-lines s = length-tabulate s.head.logical (lookup (in_use s))

pub device-blocks : (s : Lent) → blocks (device_of s) ≡ s.head.blocks
unfolding device_of
device-blocks s = length-tabulate s.head.blocks (fill_of s)

pub device-at : (s : Lent) (l : ℕ) → l < s.head.logical → at (device_of s) l ≡ lookup (in_use s) l
unfolding device_of table_of
device-at s l h = get_or-tabulate s.head.logical (lookup (in_use s)) l none h

pub device-fill : (s : Lent) (b : ℕ) → b < s.head.blocks → fill (device_of s) b ≡ fill_of s b
unfolding device_of
device-fill s b h = get_or-tabulate s.head.blocks (fill_of s) b 0 h

-- rule 4 of the words, and of the device
page-home : (s : Lent) → 0 < s.head.pages → (p l : ℕ) → Page s p l → Home (device_of s) l p
unfolding device_of
page-home s z p l h =
    let n = s.head.pages in
    let k = (div-lt_iff_lt-mul {k = n} {x = p} {y = s.head.blocks} z).1 h.inside in
    record {
      block = p / n;
      offset = p % n;
      is = sym (div-add-mod' p n);
      inside = omega (arith, device-blocks s);
      below = omega (arith, h.below, device-fill s (p / n) k);
      labelled = h.labelled;
    }

home-page : (s : Lent) → SoundDevice (device_of s) → (p l : ℕ) → Home (device_of s) l p → Page s p l
unfolding device_of
home-page s d p l h =
    let n = s.head.pages in
    let k : h.block < s.head.blocks = omega (arith, h.inside, device-blocks s) in
    let t : h.offset < n = omega (arith, h.below, d.full h.block h.inside) in
    let e = ap (λ (x : ℕ). x / n) h.is ∙ digits_div h.block t in
    record {
      inside = omega (arith, h.is, digits_lt {q = h.block} {m = s.head.blocks} {r = h.offset} {c = n} k t);
      below = omega (arith, ap (λ (x : ℕ). x % n) h.is ∙ digits_mod h.block t, h.below, device-fill s h.block k, ap (fill_of s) e);
      labelled = h.labelled;
    }

pub device-page : (s : Lent) → Rows s.head.pages 0 none s.head.logical (in_use s) → SoundDevice (device_of s) → (i k : ℕ) → i < s.head.used → k < (slot_of s i).count
    → Page s ((slot_of s i).physical + k) ((slot_of s i).logical + k)
device-page s r d i k h t =
    let l = (slot_of s i).logical + k in
    let p = (slot_of s i).physical + k in
    let a = rows-ranked s.head.pages s.head.logical s.extent_words s.head.used r in
    let e = device-at s l (omega (arith, a.high i h))
    ∙ slot-lookup s.head.pages s.head.logical s.extent_words s.head.used 0 0 none r i i k h (omega arith) t in
    home-page s d p l (subst (λ (x : ℕ). Home (device_of s) l x) e (d.home l (λ g. omega (arith, a.small i h))))

-- rule 5 of both
pub device-valid : (s : Lent) → Rows s.head.pages 0 none s.head.logical (in_use s) → SoundDevice (device_of s) → (b : ℕ) → b < s.head.blocks
    → valid (device_of s) b ≡ sum s.head.used (pages_in s.extent_words s.head.pages b)
unfolding device_of
device-valid s r d b h =
    let n = s.head.pages in
    let k : b < blocks (device_of s) = omega (arith, device-blocks s) in
    valid-lines (device_of s) d b k
    ∙ ap (λ (x : ℕ). count x (λ l. eqb (at (device_of s) l / n) b)) (device-lines s)
    ∙ count_same s.head.logical (λ l. eqb (at (device_of s) l / n) b) (λ l. eqb (lookup (in_use s) l / n) b)
    (λ l t. ap (λ (x : ℕ). eqb (x / n) b) (device-at s l t))
    ∙ in_slots n s.head.logical b (none-block (device_of s) d b k) s.extent_words s.head.used r

-- ---- a sound state has a storable device, and its words are those of that device

pub device-extents : (s : Lent) → 0 < s.head.pages → Rows s.head.pages 0 none s.head.logical (in_use s) → extents (device_of s) ≡ in_use s
unfolding extents device_of table_of
device-extents s z r = runs-again s.head.pages z s.head.logical (in_use s) r

module _ (s : Lent) (z : Shaped s) (f : SoundState s) where
  device-home : (l : ℕ) → (at (device_of s) l ≡ none → ⊥) → Home (device_of s) l (at (device_of s) l)
  device-home l m =
      let t : l < s.head.logical = by_cases (dec_lt l s.head.logical) (λ a. a)
      (λ a. absurd (m (get_or-eq_default (device_of s).table none {n = l} (omega (arith, device-lines s))))) in
      let e = device-at s l t in
      let h = lookup-held s.extent_words s.head.used 0 l (λ g. m (e ∙ g)) in
      let p = state-page s z f h.place h.offset (omega (arith, h.high)) h.inside in
      subst₂ (λ (x y : ℕ). Home (device_of s) x y) (sym h.logical) (sym (e ∙ h.physical)) (page-home s (some-pages z.sizes) _ _ p)

  device-sound : SoundDevice (device_of s)
  unfolding device_of
  device-sound =
      let n = s.head.pages in
      let blocks-in : (b : ℕ) → b < blocks (device_of s) → b < s.head.blocks = λ b h. omega (arith, device-blocks s) in
      record {
        some = some-pages z.sizes;
        words = rw (device-blocks s) (pages_fit z.sizes);
        whole = z.spare ∙ ap (λ (x : ℕ). x * n) (sym (device-blocks s));
        full = λ b h. omega (arith, f.full b (blocks-in b h), device-fill s b (blocks-in b h));
        labels = λ b o h k. omega (arith, f.labels b o (blocks-in b h) (omega (arith, device-fill s b (blocks-in b h))), device-lines s);
        blank = λ b o h k. f.blank b o (blocks-in b h) (omega (arith, device-fill s b (blocks-in b h)));
        home = device-home;
        kept = omega (arith, f.kept, device-blocks s);
        empty = device-fill s s.head.reserve f.kept ∙ f.empty;
      }

  pub extents-in_use : extents (device_of s) ≡ in_use s
  extents-in_use = device-extents s (some-pages z.sizes) f.rows

  -- 01: the extents of the map number at most M
  used-extents : length (extents (device_of s)) ≡ s.head.used
  used-extents = ap length extents-in_use ∙ slots_length s.extent_words 0 s.head.used

  pub state-storable : Storable (device_of s)
  unfolding device_of
  state-storable = record {
    sizes = rw (device-blocks s, device-lines s) z.sizes;
    sound = device-sound;
    few = omega (arith, used-extents, f.few);
  }

  pub valid-in_use : (b : ℕ) → b < s.head.blocks → valid (device_of s) b ≡ valid_of s b
  valid-in_use b h = device-valid s f.rows device-sound b h ∙ sym (f.counts b h)

  -- the unused slots are zero
  rest-zero : (m : ℕ) → 3 * s.head.used + m ≡ length s.extent_words → replicate m 0 ≡ drop (3 * s.head.used) s.extent_words
  rest-zero m e =
      let u = 3 * s.head.used in
      let size = length-replicate {A = ℕ} m 0 in
      ext_get_or 0 (replicate m 0) (drop u s.extent_words) (omega (arith, length-drop u s.extent_words))
      (λ i t. replicate-at 0 m i ∙ sym (get_or-drop u s.extent_words i 0 ∙ f.zeros (u + i) (omega arith) (omega arith)))

  words-extents : flat (extents (device_of s)) ++ replicate (3 * (s.head.slots - length (extents (device_of s)))) 0 ≡ s.extent_words
  words-extents =
      let ws = s.extent_words in
      let u = s.head.used in
      ap₂ (λ (es : List Extent) (k : ℕ). flat es ++ replicate (3 * (s.head.slots - k)) 0) extents-in_use used-extents
      ∙ ap₂ (λ (a b : List ℕ). a ++ b) (flat-slots ws u (omega (arith, z.extents, f.few))) (rest-zero (3 * (s.head.slots - u)) (omega (arith, z.extents, f.few)))
      ∙ take-append-drop (3 * u) ws

  pub device-words : words_of (device_of s) ≡ s
  unfolding words_of head_of device_of
  device-words =
      λ i. record {
        head = record {
          blocks = device-blocks s i;
          pages = s.head.pages;
          logical = device-lines s i;
          slots = s.head.slots;
          used = used-extents i;
          reserve = s.head.reserve;
          last = s.head.last;
        };
        extent_words = words-extents i;
        block_words = words-records s.head.blocks s.block_words 0 (fill_of s) (valid (device_of s)) z.blocks
            (λ b h. refl) (λ b c h e. let at : c ≡ b = omega arith in ap (valid (device_of s)) at ∙ valid-in_use b h) i;
        spare = s.spare;
      }

-- ---- a storable device is that of its words, and these are sound

pub table-lines : (d : Device) → SoundDevice d → WordLines d.table
table-lines d s l =
    by_cases (ℕ_discrete (at d l) none)
    (λ e. omega arith)
    (λ e. let h = s.home l e in omega (arith, h.is, page_lt d s h.block h.offset h.inside (offset_lt d s l e)))

pub words_in-use : (d : Device) → in_use (words_of d) ≡ extents d
unfolding words_of head_of
words_in-use d = slots-flat (extents d) (replicate (3 * (d.slots - length (extents d))) 0)

pub words-fill : (d : Device) (b : ℕ) → fill_of (words_of d) b ≡ fill d b
unfolding words_of
words-fill d b = records-fill d.fills 0 (valid d) b

pub words-valid : (d : Device) (b : ℕ) → b < blocks d → valid_of (words_of d) b ≡ valid d b
unfolding words_of
words-valid d b h = records-valid d.fills 0 (valid d) b b h (omega arith)

pub extents-lookup : (d : Device) → SoundDevice d → (l : ℕ) → lookup (extents d) l ≡ at d l
unfolding extents
extents-lookup d s l = runs-lookup d.pages s.some d.table 0 l l (table-lines d s) (omega arith)

pub extents-rows : (d : Device) → SoundDevice d → Rows d.pages 0 none (lines d) (extents d)
unfolding extents
extents-rows d s = runs-rows d.pages s.some d.table 0 (lines d) (table-lines d s) (omega arith)

pub words-device : (d : Device) → Storable d → device_of (words_of d) ≡ d
unfolding words_of head_of device_of table_of
words-device d g =
    λ i. record {
      pages = d.pages;
      slots = d.slots;
      table = table i;
      fills = fills i;
      spare = d.spare;
      reserve = d.reserve;
      last = d.last;
    }
  where
    table : tabulate (lines d) (lookup (in_use (words_of d))) ≡ d.table
    table =
        ext_get_or none (tabulate (lines d) (lookup (in_use (words_of d)))) d.table (length-tabulate (lines d) (lookup (in_use (words_of d))))
        (λ l t. get_or-tabulate (lines d) (lookup (in_use (words_of d))) l none (omega (arith, length-tabulate (lines d) (lookup (in_use (words_of d)))))
        ∙ ap (λ (es : List Extent). lookup es l) (words_in-use d) ∙ extents-lookup d g.sound l)

    fills : tabulate (blocks d) (fill_of (words_of d)) ≡ d.fills
    fills =
        ext_get_or 0 (tabulate (blocks d) (fill_of (words_of d))) d.fills (length-tabulate (blocks d) (fill_of (words_of d)))
        (λ b t. get_or-tabulate (blocks d) (fill_of (words_of d)) b 0 (omega (arith, length-tabulate (blocks d) (fill_of (words_of d)))) ∙ words-fill d b)

module _ (d : Device) (g : Storable d) where
  words-shaped : Shaped (words_of d)
  unfolding words_of head_of
  words-shaped =
      let u = length (extents d) in
      let m = 3 * (d.slots - u) in
      record {
        sizes = g.sizes;
        extents = length-append (flat (extents d)) (replicate m 0) ∙ omega (arith, flat-length (extents d), length-replicate {A = ℕ} m 0, g.few);
        blocks = records-length d.fills 0 (valid d);
        spare = g.sound.whole;
      }

  pub storable-shaped : shaped (words_of d) ≡ true
  storable-shaped = true-shaped (words_of d) words-shaped

  words-rows : Rows d.pages 0 none (lines d) (in_use (words_of d))
  words-rows = rw (words_in-use d) (extents-rows d g.sound)

  words-zeros : (k : ℕ) → 3 * length (extents d) ≤ k → get_or (words_of d).extent_words k 0 ≡ 0
  unfolding words_of
  words-zeros k h =
      let es = flat (extents d) in
      let m = 3 * (d.slots - length (extents d)) in
      let at : k ≡ length es + (k - length es) = omega (arith, flat-length (extents d)) in
      ap (λ (x : ℕ). get_or (es ++ replicate m 0) x 0) at ∙ get_or-append-add es (replicate m 0) (k - length es) 0 ∙ replicate-at 0 m (k - length es)

  pub storable-sound : sound (words_of d) ≡ true
  unfolding words_of head_of
  storable-sound =
      let s = words_of d in
      let e = words-device d g in
      let sd : SoundDevice (device_of s) = subst SoundDevice (sym e) g.sound in
      ranked-sound s g.few (rows-ranked d.pages (lines d) s.extent_words (length (extents d)) words-rows) (λ k a b. words-zeros k a)
      (record {
        full = λ b h. omega (arith, words-fill d b, g.sound.full b h);
        labels = λ b o h k. g.sound.labels b o h (omega (arith, words-fill d b));
        blank = λ b o h k. g.sound.blank b o h (omega (arith, words-fill d b));
      })
      (device-page s words-rows sd)
      (λ b h. words-valid d b h ∙ ap (λ (x : Device). valid x b) (sym e) ∙ device-valid s words-rows sd b h)
      g.sound.kept (words-fill d d.reserve ∙ g.sound.empty)

-- ---- what this says of sound states

-- a state is sound exactly when its words are the encoding of its table
pub sound_iff : (s : Lent) → shaped s ≡ true → (sound s ≡ true) ↔ (Storable (device_of s) × (words_of (device_of s) ≡ s))
sound_iff s h =
    let z = shaped-true s h in
    (λ e. let f = sound-state s z e in (state-storable s z f, device-words s z f), λ p. subst (λ (x : Lent). sound x ≡ true) p.1 (storable-sound (device_of s) p.0))

-- two states that say the same of every page, and agree in all but the extents and the valid counts
pub record SamePages (s t : Lent) : Type 0 where
  pub blocks : s.head.blocks ≡ t.head.blocks
  pub pages : s.head.pages ≡ t.head.pages
  pub logical : s.head.logical ≡ t.head.logical
  pub slots : s.head.slots ≡ t.head.slots
  pub reserve : s.head.reserve ≡ t.head.reserve
  pub last : s.head.last ≡ t.head.last
  pub fills : (b : ℕ) → b < s.head.blocks → fill_of s b ≡ fill_of t b
  pub spare : s.spare ≡ t.spare
  pub map : (l : ℕ) → l < s.head.logical → lookup (in_use s) l ≡ lookup (in_use t) l

tabulate-same : (n m : ℕ) (f g : ℕ → ℕ) → n ≡ m → ((i : ℕ) → i < n → f i ≡ g i) → tabulate n f ≡ tabulate m g
tabulate-same n m f g e h =
    let p = length-tabulate n f in
    let q = length-tabulate m g in
    ext_get_or 0 (tabulate n f) (tabulate m g) (p ∙ e ∙ sym q)
    (λ i t. get_or-tabulate n f i 0 (omega arith) ∙ h i (omega arith) ∙ sym (get_or-tabulate m g i 0 (omega arith)))

device-same : (s t : Lent) → SamePages s t → device_of s ≡ device_of t
unfolding device_of table_of
device-same s t a =
    λ i. record {
      pages = a.pages i;
      slots = a.slots i;
      table = tabulate-same s.head.logical t.head.logical (lookup (in_use s)) (lookup (in_use t)) a.logical a.map i;
      fills = tabulate-same s.head.blocks t.head.blocks (fill_of s) (fill_of t) a.blocks a.fills i;
      spare = a.spare i;
      reserve = a.reserve i;
      last = a.last i;
    }

-- are one state
pub same_map : (s t : Lent) → shaped s ≡ true → sound s ≡ true → shaped t ≡ true → sound t ≡ true → SamePages s t → s ≡ t
same_map s t hs es ht et a = sym ((sound_iff s hs).0 es).1 ∙ ap words_of (device-same s t a) ∙ ((sound_iff t ht).0 et).1

-- no two extents of a sound state share a physical page
pub apart : (s : Lent) → SoundState s → (i j k m : ℕ) → i < s.head.used → j < s.head.used → (i ≡ j → ⊥) → k < (slot_of s i).count → m < (slot_of s j).count
    → (slot_of s i).physical + k ≡ (slot_of s j).physical + m → ⊥
apart s f i j k m a b ne c d e =
    ne (rows-one s.head.pages s.head.logical s.extent_words s.head.used f.rows i j k m a b c d
    (sym (f.labelled i k a c) ∙ ap (label_of s) e ∙ f.labelled j m b d))
