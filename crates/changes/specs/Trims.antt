-- What cutting a range out of a sound state leaves: the words of the device whose lines in the range are holes. A trim is this and a number; a
-- write begins with it.
use Rattle.std.specs.Prelude.{ℕ, ◌+◌, ◌-◌, ◌*◌, ◌/◌, ◌≤◌, ◌<◌, ◌≡◌, List, [], eqb}
use Rattle.std.proofs.Math.Path.{refl, sym, ap}
use Rattle.std.proofs.Common.{◌∙◌, ap₂, ne_eqb}
use Rattle.std.proofs.Math.Logic.{by_cases}
use native.Mathlib.Omega.{arith}
use Rattle.std.proofs.Math.Decide.{dec_lt}
use Rattle.std.proofs.Math.ListN.{length}
use Rattle.rules.specs.Counting.{sum, count}
use Rattle.rules.specs.Extents.{none, lookup, slot, slots_from}
use Rattle.rules.specs.Blocks.{valid_word}
use Rattle.rules.specs.Lent.{Lent, lent, in_use, fill_of, valid_of}
use Rattle.rules.specs.Device.{Device, at, mapped, valid, extents, device_of, head_of, words_of}
use Rattle.rules.specs.Request.{kept, with_table, trimmed}
use Rattle.rules.specs.Calls.{Call, counts, leaves, lists, over}
use Rattle.rules.specs.declared.Head.{Head}
use Rattle.rules.specs.declared.Last.{Last}
use Rattle.laws.specs.Sums.{sum-zero, count_same}
use Rattle.laws.specs.Sound.{Shaped, SoundState, Storable}
use Rattle.laws.specs.Shapes.{lines-pages, pages-high}
use Rattle.laws.specs.Cut.{cut}
use Rattle.laws.specs.Device.{none-block}
use Rattle.laws.specs.Lines.{trimmed-lines}
use Rattle.laws.specs.Valid.{trim-valid}
use Rattle.laws.specs.Encoded.{trim-extents}
use Rattle.laws.specs.Tallies.{in_range, total, total-slots, in_range-slots, in_slots}
use Rattle.laws.specs.Records.{words-records}
use Rattle.laws.specs.Slots.{slots_length}
use Rattle.laws.specs.States.{device-lines, device-blocks, device-at, state-storable, extents-in_use, valid-in_use}
use Rattle.map.specs.Padded.{padded, without, without-length, Becomes, Gapped, zeros-holds, padded-words}
use Rattle.map.specs.Sound.{SoundMap}
use Rattle.cutting.specs.Cutting.{Cuttable}
use Rattle.map.specs.Sound.{rows-sound}
use Rattle.striking.specs.Lowered.{Lowered, Lowerable, total-enough}
use Rattle.refusals.specs.Accepts.{Ready}

-- lines l, l + 1, .., n of them, can be cut out of the state
pub record Cut (l n : ℕ) (s : Lent) : Type 0 where
  pub shape : Shaped s
  pub sound : SoundState s
  pub some : 0 < n
  pub inside : l + n ≤ s.head.logical
  pub nodes : length (extents (trimmed 0 l n (device_of s))) ≤ s.head.slots

-- the device with holes in the range
abbrev pub holed : ℕ → ℕ → Lent → Device
holed l n s = trimmed 0 l n (device_of s)

-- the words of it: what is left of the extents in the first u slots, and its block records
pub record Holed (l n : ℕ) (s : Lent) (u : ℕ) (ext blk : List ℕ) : Type 0 where
  pub map : Becomes (length s.extent_words) (cut l (l + n) (in_use s)) ext u
  pub blocks : blk ≡ (words_of (holed l n s)).block_words

-- the same with the range not yet closed: the slots from a up to z, of u, are to go
pub record Opened (l n : ℕ) (s : Lent) (before u a z : ℕ) (ext blk : List ℕ) : Type 0 where
  pub map : Gapped (length s.extent_words) (cut l (l + n) (in_use s)) ext u a z
  pub from : a ≡ before
  pub blocks : blk ≡ (words_of (holed l n s)).block_words

-- how many extents are left
pub opened-used : {l n : ℕ} (s : Lent) {before u a z : ℕ} {ext blk : List ℕ} → Opened l n s before u a z ext blk → length (cut l (l + n) (in_use s)) + (z - a) ≡ u
opened-used {l} {n} s {before} {u} {a} {z} {ext} w =
    let size = slots_length ext 0 u in
    let m = w.map in
    omega (arith, ap length m.is, without-length a z (slots_from ext 0 u) m.order (omega (arith, m.within)))

-- and closed
pub closed-holed : {l n : ℕ} (s : Lent) {before u a z : ℕ} {ext blk : List ℕ} (ext' : List ℕ) → Opened l n s before u a z ext blk
    → ext' ≡ padded (length ext) (without a z (slots_from ext 0 u)) → Holed l n s (u - (z - a)) ext' blk
closed-holed s ext' w e = record {
  map = record { is = e ∙ ap₂ padded w.map.long w.map.is; used = omega (arith, opened-used s w) };
  blocks = w.blocks;
}

module _ (l n : ℕ) (s : Lent) (z : Cut l n s) where
  abbrev d : Device
  d = device_of s

  storable : Storable (device_of s)
  storable = state-storable s z.shape z.sound

  pub cut_line : l + n ≤ 262144
  cut_line = omega (arith, z.inside, lines-pages z.shape.sizes, pages-high z.shape.sizes)

  pub cut-slots : 3 * s.head.used ≤ length s.extent_words
  cut-slots = omega (arith, z.shape.extents, z.sound.few)

  cut-sound : SoundMap (in_use s)
  cut-sound = rows-sound s z.sound

  -- ---- the extents

  pub cut-extents : cut l (l + n) (in_use s) ≡ extents (holed l n s)
  cut-extents =
      ap (cut l (l + n)) (sym (extents-in_use s z.shape z.sound))
      ∙ trim-extents 0 l n (device_of s) storable.sound z.some (omega (arith, z.inside, device-lines s))

  pub cuttable : Cuttable s.extent_words s.head.used l (l + n)
  cuttable = record {
    held = zeros-holds s.extent_words s.head.used cut-slots z.sound.zeros;
    sound = cut-sound;
    range = omega (arith, z.some);
    room = omega (arith, ap length cut-extents, z.nodes, z.shape.extents);
  }

  slots_same : (holed l n s).slots ≡ s.head.slots
  unfolding trimmed with_table device_of
  slots_same = refl

  pub cut-words : (ext : List ℕ) → ext ≡ padded (length s.extent_words) (cut l (l + n) (in_use s)) → ext ≡ (words_of (holed l n s)).extent_words
  cut-words ext e =
      e ∙ ap₂ padded (z.shape.extents ∙ ap (λ (m : ℕ). 3 * m) (sym slots_same)) cut-extents ∙ padded-words (holed l n s)

  -- ---- the blocks

  not_none : (c : ℕ) → c < s.head.blocks → none / s.head.pages ≡ c → ⊥
  unfolding device_of
  not_none c h = none-block (device_of s) storable.sound c (omega (arith, device-blocks s))

  -- the lines of the range that lie in block c
  lost : (c : ℕ) → c < s.head.blocks → count n (λ i. eqb (at (device_of s) (l + i) / s.head.pages) c) ≡ total (in_range s.head.pages c l (l + n)) (in_use s)
  lost c h =
      count_same n (λ i. eqb (at (device_of s) (l + i) / s.head.pages) c) (λ i. eqb (lookup (in_use s) (l + i) / s.head.pages) c)
      (λ i p. ap (λ (x : ℕ). eqb (x / s.head.pages) c) (device-at s (l + i) (omega (arith, z.inside))))
      ∙ in_range-slots s.head.pages s.head.logical c (not_none c h) s.extent_words s.head.used 0 none z.sound.rows l n
      ∙ sym (total-slots (in_range s.head.pages c l (l + n)) s.extent_words s.head.used)

  held : (c : ℕ) → c < s.head.blocks → total (in_range s.head.pages c 0 s.head.logical) (in_use s) ≡ valid_of s c
  held c h =
      let top : s.head.logical ≡ 0 + s.head.logical = omega arith in
      total-slots (in_range s.head.pages c 0 s.head.logical) s.extent_words s.head.used
      ∙ ap (λ (x : ℕ). sum s.head.used (λ i. in_range s.head.pages c 0 x (slot s.extent_words i))) top
      ∙ sym (in_range-slots s.head.pages s.head.logical c (not_none c h) s.extent_words s.head.used 0 none z.sound.rows 0 s.head.logical)
      ∙ count_same s.head.logical (λ i. eqb (lookup (in_use s) (0 + i) / s.head.pages) c) (λ i. eqb (lookup (in_use s) i / s.head.pages) c)
      (λ i p. let e : 0 + i ≡ i = omega arith in ap (λ (x : ℕ). eqb (lookup (in_use s) x / s.head.pages) c) e)
      ∙ in_slots s.head.pages s.head.logical c (not_none c h) s.extent_words s.head.used z.sound.rows
      ∙ sym (z.sound.counts c h)

  -- no slot lies in a block that is not there
  nowhere : (c : ℕ) → s.head.blocks ≤ c → total (in_range s.head.pages c l (l + n)) (in_use s) ≡ 0
  unfolding in_range
  nowhere c h =
      total-slots (in_range s.head.pages c l (l + n)) s.extent_words s.head.used
      ∙ sum-zero s.head.used (λ i. in_range s.head.pages c l (l + n) (slot s.extent_words i))
      (λ i p. rw (ne_eqb ((slot s.extent_words i).physical / s.head.pages) c (λ g. omega (arith, z.sound.inside i p))))

  pub lowerable : Lowerable s.extent_words s.head.used s.head.pages l (l + n) s.block_words
  lowerable = record {
    within = cut-slots;
    sound = cut-sound;
    some = z.shape.sizes.n-low;
    inside = λ i p. omega (arith, z.sound.inside i p, z.shape.blocks);
    enough = λ b. by_cases (dec_lt b s.head.blocks)
        (λ h. omega (arith, total-enough s.head.pages b l (l + n) s.head.logical (in_use s) z.inside, held b h))
        (λ h. omega (arith, nowhere b (omega arith)));
  }

  pub lowered-words : (blk : List ℕ) → Lowered s.head.pages l (l + n) (in_use s) s.block_words blk → blk ≡ (words_of (holed l n s)).block_words
  unfolding words_of trimmed with_table device_of
  lowered-words blk w =
      sym (words-records s.head.blocks blk 0 (fill_of s) (valid (holed l n s)) (w.size ∙ z.shape.blocks)
      (λ b h. sym (w.fills b))
      (λ b j h e. let q : j ≡ b = omega arith in
      ap (valid (holed l n s)) q ∙ left b h))
    where
      left : (b : ℕ) → b < s.head.blocks → valid (holed l n s) b ≡ valid_word blk b
      left b h =
          omega (
            arith,
            trim-valid 0 l n (device_of s) storable.sound (omega (arith, z.inside, device-lines s)) b (omega (arith, device-blocks s)),
            lost b h,
            valid-in_use s z.shape z.sound b h,
            w.valids b,
          )

  pub opened-is : (before u a c : ℕ) (ext blk : List ℕ) → Gapped (length s.extent_words) (cut l (l + n) (in_use s)) ext u a c → a ≡ before
      → Lowered s.head.pages l (l + n) (in_use s) s.block_words blk → Opened l n s before u a c ext blk
  opened-is before u a c ext blk g e w = record { map = g; from = e; blocks = lowered-words blk w }

-- ---- a trim

module _ (k l n : ℕ) (s : Lent) (z : Ready (Call.trim k l n) s) where
  same-slots : (trimmed k l n (device_of s)).slots ≡ s.head.slots
  unfolding trimmed with_table device_of
  same-slots = refl

  same-extents : extents (trimmed k l n (device_of s)) ≡ extents (trimmed 0 l n (device_of s))
  unfolding trimmed with_table extents
  same-extents = refl

  pub trim-cut : Cut l n s
  trim-cut = record {
    shape = z.shape;
    sound = z.sound;
    some = z.taken.range.some;
    inside = let i = z.taken.range.inside in omega (arith, device-lines s);
    nodes = omega (arith, z.taken.nodes, same-slots, ap length same-extents);
  }

  abbrev trim_head : ℕ → Last → Head
  trim_head used last = record {
    blocks = s.head.blocks;
    pages = s.head.pages;
    logical = s.head.logical;
    slots = s.head.slots;
    used = used;
    reserve = s.head.reserve;
    last = last;
  }

  pub trim-leaves : (used : ℕ) (last : Last) (ext blk : List ℕ) → Holed l n s used ext blk → last ≡ kept k
      → lent (trim_head used last) ext blk s.spare ≡ words_of (leaves (Call.trim k l n) (device_of s))
  unfolding leaves words_of head_of trimmed with_table device_of extents valid mapped
  trim-leaves used last ext blk w g = λ i. lent
      (record {
        blocks = sym (device-blocks s) i;
        pages = s.head.pages;
        logical = (sym (device-lines s) ∙ sym (trimmed-lines k l n (device_of s))) i;
        slots = s.head.slots;
        used = (w.map.used ∙ ap length (cut-extents l n s trim-cut)) i;
        reserve = s.head.reserve;
        last = g i;
      })
      (cut-words l n s trim-cut ext w.map.is i)
      (w.blocks i)
      s.spare

  pub trim-counts : [] ≡ counts (Call.trim k l n) (device_of s)
  unfolding counts
  trim-counts = refl

  pub trim-lists : [] ≡ over (lists (Call.trim k l n) (device_of s)) []
  unfolding lists over
  trim-lists = refl
