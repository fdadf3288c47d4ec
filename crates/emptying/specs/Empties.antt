-- What a reclaim that nothing refuses asks of the words, lists and leaves.
use Rattle.std.specs.Prelude.{ℕ, ◌+◌, ◌*◌, ◌/◌, ◌%◌, ◌≤◌, ◌<◌, ◌≡◌, get_or, take}
use Rattle.std.proofs.Math.Path.{refl, sym, ap}
use Rattle.std.proofs.Common.{◌∙◌}
use mathlib.Core.List.{List, [], ◌∷◌}
use native.Mathlib.Omega.{arith}
use Rattle.std.proofs.Math.ListN.{length}
use Rattle.rules.specs.Counting.{count}
use Rattle.rules.specs.Extents.{none, slot}
use Rattle.rules.specs.Blocks.{records, HasBlock}
use Rattle.rules.specs.Lent.{Lent, lent, in_use, slot_of, fill_of}
use Rattle.rules.specs.Device.{blocks, valid, extents, device_of, head_of, words_of}
use Rattle.rules.specs.Reclaim.{victim, sources, reclaimed_at, reclaimed}
use Rattle.rules.specs.Answers.{said, outcome}
use Rattle.rules.specs.Calls.{Call, counts, leaves, lists, over, call}
use Rattle.rules.specs.declared.Head.{Head}
use Rattle.laws.specs.Cells.{swept}
use Rattle.laws.specs.Device.{SoundDevice}
use Rattle.laws.specs.Ranked.{Ranked, rows-ranked}
use Rattle.laws.specs.Shapes.{lines-pages, pages-high}
use Rattle.laws.specs.Slots.{slots_length}
use Rattle.laws.specs.States.{device-blocks, device-lines, device-words, extents-in_use, state-storable}
use Rattle.laws.specs.Reclaimed.{re_blocks, re_lines}
use Rattle.laws.specs.Gains.{Chosen, victim-chosen}
use Rattle.laws.specs.Encoded.{reclaim-shrinks}
use Rattle.choosing.specs.Covered.{covered}
use Rattle.choosing.specs.Ranks.{Ranks, rises, ranks_rise}
use Rattle.reclaiming.specs.Remapped.{remapped}
use Rattle.map.specs.Padded.{padded, padded-words}
use Rattle.reclaiming.specs.Moves.{Moves}
use Rattle.choosing.specs.Sources.{live_pages}
use Rattle.reclaiming.specs.Labels.{Copied}
use Rattle.reclaiming.specs.Emptied.{emptied}
use Rattle.reclaiming.specs.Reclaims.{block_room, rises-sources, rank-sources, count-sources, remapped-extents, sources-copied, moved-labels, emptied-records}
use Rattle.refusals.specs.Accepts.{Ready, accepts}

-- what the walk over the slots that ranks the pages of block v asks of them
pub record Walkable (h : Head) (ext : List ℕ) (v : ℕ) : Type 0 where
  pub slots : 3 * h.used ≤ length ext
  pub some : 1 ≤ h.pages
  pub few : h.pages ≤ 256
  pub room : v * h.pages + h.pages ≤ none
  pub inside : (i : ℕ) → i < h.used → (slot ext i).physical % h.pages + (slot ext i).count ≤ h.pages

module _ (out : List ℕ) (s : Lent) (z : Ready (Call.reclaim out) s) where
  sound : SoundDevice (device_of s)
  sound = (state-storable s z.shape z.sound).sound

  same : extents (device_of s) ≡ in_use s
  same = extents-in_use s z.shape z.sound

  block-fits : (b : ℕ) → b < blocks (device_of s) → b * s.head.pages + s.head.pages ≤ none
  unfolding device_of
  block-fits b h = block_room (device_of s) sound b h

  -- rules 1 and 2, slot by slot
  ranked-slots : Ranked s.head.pages s.head.logical s.extent_words s.head.used
  ranked-slots = rows-ranked s.head.pages s.head.logical s.extent_words s.head.used z.sound.rows

  -- no slot lies in the reserve
  reserve-free : (i : ℕ) → i < s.head.used → (slot_of s i).physical / s.head.pages ≡ s.head.reserve → ⊥
  reserve-free i t e = omega (arith, z.sound.below i t, ap (fill_of s) e, z.sound.empty, ranked-slots.some i t)

  module _ (v : ℕ) (is : v ≡ victim (device_of s)) where
    chosen : Chosen (device_of s) (victim (device_of s))
    chosen = victim-chosen (device_of s) sound z.taken.gains

    inside : v < blocks (device_of s)
    inside = omega (arith, chosen.inside, is)

    other : v ≡ s.head.reserve → ⊥
    unfolding device_of
    other e = chosen.other (sym is ∙ e)

    pub reclaim_walkable : Walkable s.head s.extent_words v
    reclaim_walkable = record {
      slots = omega (arith, z.shape.extents, z.sound.few);
      some = z.shape.sizes.n-low;
      few = z.shape.sizes.n-high;
      room = block-fits v inside;
      inside = ranked-slots.inside;
    }

    pub reclaim_moves : (HasBlock s.block_words s.head.reserve) × (HasBlock s.block_words v)
    reclaim_moves = (omega (arith, z.sound.kept, z.shape.blocks), omega (arith, inside, device-blocks s, z.shape.blocks))

    module _ (ranks : List ℕ) (r : Ranks s.head.pages (covered (in_use s) s.head.pages v) ranks) where
      ranked : Ranks s.head.pages (covered (extents (device_of s)) s.head.pages v) ranks
      ranked = rw same r

      few : length (sources v (device_of s)) ≤ length out
      few = omega (arith, ap (λ (u : ℕ). length (sources u (device_of s))) is, z.taken.room)

      -- how many pages it copies
      pub reclaim-copies : get_or ranks s.head.pages 0 ≡ length (sources v (device_of s))
      unfolding device_of
      reclaim-copies = rank-sources (device_of s) sound v inside other ranks ranked

      pub reclaim-lists : Ranks s.head.pages (rises ranks) ranks × (count s.head.pages (rises ranks) ≤ length out) × (v * s.head.pages + s.head.pages ≤ none)
      unfolding device_of
      reclaim-lists = (
        ranks_rise s.head.pages (covered (in_use s) s.head.pages v) ranks r,
        omega (arith, few, count-sources (device_of s) sound v inside other ranks ranked),
        block-fits v inside,
      )

      pub reclaim-map : Moves s.head.pages v s.head.reserve s.extent_words s.head.used ranks
      reclaim-map =
          let w = reclaim_walkable in
          record {
            slots = w.slots;
            zeros = z.sound.zeros;
            some = w.some;
            from = w.room;
            room = block-fits s.head.reserve (omega (arith, z.sound.kept, device-blocks s));
            ends = λ i t. omega (arith, ranked-slots.high i t, lines-pages z.shape.sizes, pages-high z.shape.sizes);
            apart = ranked-slots.apart;
            free = reserve-free;
            ranked = r;
          }

      module _ (out' : List ℕ) (g : out' ≡ over (live_pages s.head.pages v (rises ranks)) out) where
        listed : out' ≡ over (sources v (device_of s)) out
        unfolding device_of
        listed = g ∙ ap (λ (ps : List ℕ). over ps out) (rises-sources (device_of s) sound v inside other ranks ranked)

        pub reclaim-copied : Copied s.head.pages s.head.reserve v out' (get_or ranks s.head.pages 0) (length s.spare)
        unfolding device_of
        reclaim-copied = rw reclaim-copies (sources-copied (device_of s) sound v inside other out out' few listed)

  -- the map afterwards
  module _ (v : ℕ) (is : v ≡ victim (device_of s)) where
    new-extents : remapped s.head.pages v s.head.reserve (in_use s) ≡ extents (reclaimed_at v (device_of s))
    unfolding device_of
    new-extents = ap (remapped s.head.pages v s.head.reserve) (sym same) ∙ remapped-extents (device_of s) sound v (inside v is) (other v is)

    slots_same : (reclaimed_at v (device_of s)).slots ≡ s.head.slots
    unfolding reclaimed_at device_of
    slots_same = refl

    pub reclaim-few : length (remapped s.head.pages v s.head.reserve (in_use s)) ≤ 8192
    unfolding reclaimed
    reclaim-few =
        omega (
          arith,
          ap length new-extents,
          ap (λ (u : ℕ). length (extents (reclaimed_at u (device_of s)))) is,
          reclaim-shrinks (device_of s) sound z.taken.gains,
          ap length same,
          slots_length s.extent_words 0 s.head.used,
          z.sound.few,
          z.shape.sizes.m-high,
        )

    ext_is : (ext : List ℕ) → ext ≡ padded (length s.extent_words) (remapped s.head.pages v s.head.reserve (in_use s)) → ext ≡ (words_of (reclaimed_at v (device_of s))).extent_words
    ext_is ext p =
        p
        ∙ ap (padded (length s.extent_words)) new-extents
        ∙ ap (λ (k : ℕ). padded k (extents (reclaimed_at v (device_of s)))) (z.shape.extents ∙ ap (λ (m : ℕ). 3 * m) (sym slots_same))
        ∙ padded-words (reclaimed_at v (device_of s))

    -- the block records afterwards
    given : s.block_words ≡ records (device_of s).fills 0 (valid (device_of s))
    unfolding words_of
    given = ap (λ (t : Lent). t.block_words) (sym (device-words s z.shape z.sound))

    blk_is : (blk : List ℕ) → blk ≡ emptied s.head.reserve v s.block_words → blk ≡ records (reclaimed_at v (device_of s)).fills 0 (valid (reclaimed_at v (device_of s)))
    unfolding device_of
    blk_is blk p = p ∙ emptied-records (device_of s) sound v (inside v is) (other v is) s.block_words given

    module _ (ranks : List ℕ) (r : Ranks s.head.pages (covered (in_use s) s.head.pages v) ranks)
        (out' : List ℕ) (g : out' ≡ over (live_pages s.head.pages v (rises ranks)) out) (k : ℕ) (e : k ≡ get_or ranks s.head.pages 0) where
      copies : k ≡ length (sources v (device_of s))
      copies = e ∙ reclaim-copies v is ranks r

      -- the labels afterwards
      spare-is : (spare : List ℕ) → spare ≡ swept none s.head.pages s.head.reserve v (take k out') s.spare → spare ≡ (reclaimed_at v (device_of s)).spare
      unfolding device_of
      spare-is spare p =
          p
          ∙ ap (λ (m : ℕ). swept none s.head.pages s.head.reserve v (take m out') s.spare) copies
          ∙ moved-labels (device_of s) sound v (inside v is) (other v is) out out' (few v is ranks r) (listed v is ranks r out' g)

      module _ (w : ℕ) (ext blk spare : List ℕ) (a : w ≡ length (remapped s.head.pages v s.head.reserve (in_use s)))
          (x : ext ≡ padded (length s.extent_words) (remapped s.head.pages v s.head.reserve (in_use s)))
          (b : blk ≡ emptied s.head.reserve v s.block_words)
          (l : spare ≡ swept none s.head.pages s.head.reserve v (take k out') s.spare) where
        -- the head afterwards
        abbrev head : Head
        head = record {
          blocks = s.head.blocks;
          pages = s.head.pages;
          logical = s.head.logical;
          slots = s.head.slots;
          used = w;
          reserve = v;
          last = s.head.last;
        }

        head-is : head ≡ head_of (reclaimed_at v (device_of s))
        unfolding head_of reclaimed_at device_of
        head-is =
            λ i. record {
              blocks = sym (re_blocks (device_of s) sound v (inside v is) (other v is) ∙ device-blocks s) i;
              pages = s.head.pages;
              logical = sym (re_lines (device_of s) sound v (inside v is) (other v is) ∙ device-lines s) i;
              slots = s.head.slots;
              used = (a ∙ ap length new-extents) i;
              reserve = v;
              last = s.head.last;
            }

        words : lent head ext blk spare ≡ words_of (reclaimed_at v (device_of s))
        unfolding words_of
        words = λ i. lent (head-is i) (ext_is ext x i) (blk_is blk b i) (spare-is spare l i)

        -- and the answer
        pub reclaim-answer : outcome (said 0 (k ∷ []) head) ext blk spare out' ≡ call (Call.reclaim out) s
        unfolding counts leaves lists reclaimed
        reclaim-answer =
            accepts (Call.reclaim out) s z (k ∷ []) out' (lent head ext blk spare)
            (ap (λ (m : ℕ). m ∷ []) (copies ∙ ap (λ (u : ℕ). length (sources u (device_of s))) is))
            (words ∙ ap (λ (u : ℕ). words_of (reclaimed_at u (device_of s))) is)
            (listed v is ranks r out' g ∙ ap (λ (u : ℕ). over (sources u (device_of s)) out) is)
