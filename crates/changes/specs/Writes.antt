-- What a write that nothing refuses does to the words, step by step: the range cut out, the pages placed, the pieces put in.
use Rattle.std.specs.Prelude.{ℕ, zero, suc, ◌+◌, ◌-◌, ◌*◌, ◌≤◌, ◌<◌, Bool, true, false, ◌≡◌, get_or, take, drop}
use Rattle.std.proofs.Math.Path.{refl, sym, ap}
use Rattle.std.proofs.Common.{ap₂, ◌∙◌, subst, arith, length-append, get_or-take, length-take-le}
use mathlib.Core.List.{List, [], ◌∷◌, ◌++◌}
use Rattle.std.proofs.Math.ListN.{length, get_or-append}
use Rattle.rules.specs.Counting.{one}
use Rattle.rules.specs.Extents.{none, extent, slot, slots_from, flat}
use Rattle.rules.specs.Blocks.{stride, fill_word, valid_word, records}
use Rattle.rules.specs.Lent.{Lent, lent, in_use, fill_of}
use Rattle.rules.specs.Device.{Device, blocks, fill, mapped, valid, extents, device_of, head_of, words_of}
use Rattle.rules.specs.Placement.{puts, pieces}
use Rattle.rules.specs.Request.{kept, with_table, numbered, written, trimmed}
use Rattle.rules.specs.Calls.{Call, counts, leaves, lists, over}
use Rattle.rules.specs.declared.Head.{Head}
use Rattle.rules.specs.declared.Last.{Last}
use Rattle.rules.specs.declared.Extent.{Extent}
use Rattle.laws.specs.Device.{SoundDevice}
use Rattle.laws.specs.Sound.{Storable}
use Rattle.laws.specs.Rows.{Rows, rows-first}
use Rattle.laws.specs.Shapes.{lines-pages, pages-high}
use Rattle.laws.specs.Cut.{cut, cut-rows}
use Rattle.laws.specs.Counts.{starts_before, left_join, left-none, cut-length}
use Rattle.laws.specs.Slots.{blank, flat-length, slots_length, slots_at, slots-flat}
use Rattle.laws.specs.Ranked.{rows-ranked}
use Rattle.laws.specs.Cells.{tabulate-same}
use Rattle.laws.specs.Lines.{trimmed-sound}
use Rattle.laws.specs.Balance.{valid-stale}
use Rattle.laws.specs.Placed.{Puts, puts-slots, puts-pages, puts-reserve}
use Rattle.laws.specs.Order.{puts-all}
use Rattle.laws.specs.Records.{records-length, records-fill, records-valid, words-records}
use Rattle.laws.specs.Spread.{start_block}
use Rattle.laws.specs.Growth.{first_place, pieces-begin}
use Rattle.laws.specs.Alike.{Alike, alike-free, alike-pieces, over_rise}
use Rattle.laws.specs.States.{device-lines, device-blocks, device-fill, extents-in_use, state-storable}
use Rattle.map.specs.Padded.{padded, padded-words, without, Becomes}
use Rattle.map.specs.Clip.{at_slot}
use Rattle.putting.specs.Pieces.{put_in}
use Rattle.putting.specs.Fills.{Puttable}
use Rattle.starting.specs.Bare.{bare, fills_of, bare_alike}
use Rattle.placing.specs.Place.{Placed, placed_alike, Placeable}
use Rattle.writable.specs.Meeting.{Writable, Meets, pieces_of, grows}
use Rattle.writable.specs.declared.Meeting.{Meeting}
use Rattle.map.specs.Around.{trim-nodes}
use Rattle.refusals.specs.Accepts.{Ready}
use Rattle.changes.specs.Trims.{Cut, holed, Opened, opened-used}
use Rattle.changes.specs.Puts.{piece-rows, put-extents}

module _ (k l n : ℕ) (out : List ℕ) (s : Lent) (z : Ready (Call.write k l n out) s) where
  abbrev d : Device
  d = device_of s

  storable : Storable (device_of s)
  storable = state-storable s z.shape z.sound

  inside-lines : l + n ≤ s.head.logical
  inside-lines = let i = z.taken.range.inside in omega (arith, device-lines s)

  pub write-writable : Writable l n s
  unfolding device_of
  write-writable = record { shape = z.shape; sound = z.sound; some = z.taken.range.some; block = z.taken.block; inside = inside-lines; enough = z.taken.pages }

  slots_same : (puts l n (device_of s)).slots ≡ s.head.slots
  unfolding puts device_of
  slots_same = puts-slots l _ (device_of s)

  some-pieces : 1 ≤ pieces_of l n s
  some-pieces =
      let b = pieces-begin l n (device_of s) storable.sound z.taken.pages z.taken.range.inside z.taken.range.some in
      omega (arith, ap length b.is)

  one_le : (b : Bool) → one b ≤ 1
  one_le true = omega arith
  one_le false = omega arith

  module _ (m : Meeting) (e : Meets l n s m) where
    -- ---- the range cut out

    pub write-cut : Cut l n s
    write-cut = record {
      shape = z.shape;
      sound = z.sound;
      some = z.taken.range.some;
      inside = inside-lines;
      nodes = omega (
        arith,
        trim-nodes s z.shape z.sound 0 l n z.taken.range.some inside-lines,
        grows l n s write-writable m e,
        e.sides.before,
        e.sides.after,
        some-pieces,
        one_le m.joined,
        z.taken.nodes,
        slots_same,
      );
    }

    module _ (u a c : ℕ) (ext blk : List ℕ) (w : Opened l n s m.sides.before u a c ext blk) where
      held-used : u ≡ m.sides.before + m.sides.after + (c - a)
      held-used =
          omega (
            arith,
            opened-used s w,
            cut-length s.head.pages s.head.logical l (l + n) (in_use s) z.sound.rows,
            e.sides.before,
            e.sides.after,
          )

      -- ---- the pages placed

      fills_are : fills_of s.head.blocks blk ≡ (device_of s).fills
      unfolding device_of
      fills_are =
          tabulate-same s.head.blocks (fill_word blk) (fill_of s)
          (λ b p. ap (λ (ws : List ℕ). fill_word ws b) w.blocks ∙ at b p)
        where
          at : (b : ℕ) → b < s.head.blocks → fill_word (words_of (holed l n s)).block_words b ≡ fill_of s b
          at b p = unfold words_of trimmed with_table in records-fill (device_of s).fills 0 (valid (holed l n s)) b ∙ device-fill s b p

      alike : Alike (bare s.head.blocks s.head.pages s.head.reserve blk s.spare) (device_of s)
      unfolding device_of
      alike = bare_alike s.head.blocks s.head.pages s.head.reserve blk s.spare (device_of s) refl fills_are refl refl

      trim-sound : SoundDevice (holed l n s)
      trim-sound = trimmed-sound 0 l n (device_of s) storable.sound z.taken.range.inside

      same_blocks : blocks (holed l n s) ≡ s.head.blocks
      unfolding trimmed with_table
      same_blocks = device-blocks s

      words-length : length (words_of (holed l n s)).block_words ≡ stride * blocks (holed l n s)
      unfolding words_of
      words-length = records-length (holed l n s).fills 0 (valid (holed l n s))

      blk_length : length blk ≡ length s.block_words
      blk_length = ap length w.blocks ∙ words-length ∙ omega (arith, same_blocks, z.shape.blocks)

      valid-at : (b : ℕ) → b < s.head.blocks → valid_word blk b ≡ valid (holed l n s) b
      valid-at b p =
          ap (λ (ws : List ℕ). valid_word ws b) w.blocks
          ∙ (unfold words_of in records-valid (holed l n s).fills 0 (valid (holed l n s)) b b (omega (arith, same_blocks)) (omega arith))

      fill-at : (b : ℕ) → fill_word blk b ≡ fill (holed l n s) b
      fill-at b = ap (λ (ws : List ℕ). fill_word ws b) w.blocks ∙ (unfold words_of in records-fill (holed l n s).fills 0 (valid (holed l n s)) b)

      pub placeable : Placeable s.head.blocks s.head.pages s.head.reserve m.from l n blk s.spare out
      placeable = record {
        blk_size = omega (arith, blk_length, z.shape.blocks);
        spare-size = omega (arith, z.shape.spare);
        blocks-few = z.shape.sizes.b-high;
        pages-few = z.shape.sizes.n-high;
        valid = λ b p. omega (arith, valid-at b p, fill-at b, valid-stale (holed l n s) trim-sound b (omega (arith, same_blocks)));
        lines = omega (arith, inside-lines, lines-pages z.shape.sizes, pages-high z.shape.sizes);
        some = z.taken.range.some;
        start = e.from ∙ (unfold device_of in ap (λ (fs : List ℕ). start_block s.head.pages s.head.reserve fs n) (sym fills_are));
        room = omega (arith, alike-free (bare s.head.blocks s.head.pages s.head.reserve blk s.spare) (device_of s) alike, z.taken.pages);
        slots = omega (arith, ap length (alike-pieces l n (bare s.head.blocks s.head.pages s.head.reserve blk s.spare) (device_of s) alike), z.taken.room);
      }

      module _ (blk' spare' out' : List ℕ) (r : ℕ) (size : length blk' ≡ length blk)
          (p : Placed (bare s.head.blocks s.head.pages s.head.reserve blk s.spare) l n blk out blk' spare' out' r) where
        placed : Placed (device_of s) l n blk out blk' spare' out' r
        placed = placed_alike (bare s.head.blocks s.head.pages s.head.reserve blk s.spare) (device_of s) l n blk out blk' spare' out' r alike p

        answer : out' ≡ flat (pieces l n (device_of s)) ++ drop (length (flat (pieces l n (device_of s)))) out
        unfolding over
        answer = placed.answer

        listed : slots_from out' 0 r ≡ pieces l n (device_of s)
        listed =
            ap₂ (λ (ws : List ℕ) (x : ℕ). slots_from ws 0 x) answer placed.many
            ∙ slots-flat (pieces l n (device_of s)) (drop (length (flat (pieces l n (device_of s)))) out)

        out-length : 3 * r ≤ length out'
        out-length =
            omega (
              arith,
              placed.many,
              ap length answer,
              length-append (flat (pieces l n (device_of s))) (drop (length (flat (pieces l n (device_of s)))) out),
              flat-length (pieces l n (device_of s)),
            )

        -- ---- the pieces put in

        -- the extent before the gap has at most N pages
        short : 1 ≤ a → (slot ext (a - 1)).count ≤ 256
        short q =
            let left = cut l (l + n) (in_use s) in
            let words = flat left ++ [] in
            let i = a - 1 in
            let es = slots_from ext 0 u in
            let few : length (take a es) ≡ a = length-take-le a es (omega (arith, slots_length ext 0 u, w.map.order, w.map.within)) in
            let here : slot ext i ≡ get_or left i blank =
            sym (at_slot ext u i (omega (arith, w.map.order, w.map.within))) ∙ sym (get_or-take a es i blank (omega arith))
            ∙ sym (get_or-append (take a es) (drop c es) blank i (omega arith)) ∙ ap (λ (xs : List Extent). get_or xs i blank) w.map.is in
            let inside : i < length left = omega (arith, opened-used s w, held-used, w.from) in
            let same : slots_from words 0 (length left) ≡ left = slots-flat left [] in
            let there : slot words i ≡ get_or left i blank = sym (slots_at words 0 (length left) i i blank inside (omega arith)) ∙ ap (λ (xs : List Extent). get_or xs i blank) same in
            let rows = subst (λ (xs : List Extent). Rows s.head.pages 0 none s.head.logical xs) (sym same)
            (cut-rows s.head.pages s.head.logical l (l + n) (in_use s) (omega (arith, z.taken.range.some)) inside-lines z.sound.rows) in
            let most = (rows-ranked s.head.pages s.head.logical words (length left) rows).inside i inside in
            omega (arith, ap (λ (x : Extent). x.count) (here ∙ sym there), most, z.shape.sizes.n-high)

        short-piece : (slot out' 0).count ≤ 256
        short-piece =
            let rows = subst (λ (es : List Extent). Rows s.head.pages 0 none (l + n) es) (sym listed)
            (rows-first s.head.pages (l + n) (pieces l n (device_of s)) l none 0 (omega arith)
            (unfold device_of in piece-rows l n (device_of s) storable.sound z.taken.range.some z.taken.pages z.taken.range.inside)) in
            omega (arith, (rows-ranked s.head.pages (l + n) out' r rows).inside 0 (omega (arith, placed.many, some-pieces)), z.shape.sizes.n-high)

        joins-some : m.joined ≡ true → 1 ≤ m.sides.before
        joins-some t = go m.sides.before refl
          where
            go : (b : ℕ) → m.sides.before ≡ b → 1 ≤ m.sides.before
            go zero f =
                absurd (omega (
                  arith,
                  e.joined write-writable,
                  ap one t,
                  left-none s.head.pages s.head.logical l (extent l (first_place l n (device_of s)) 1) (in_use s) 0 none z.sound.rows refl (sym e.sides.before ∙ f),
                ))
            go (suc b) f = omega arith

        pub puttable : Puttable ext u a c m.joined out' r
        puttable = record {
          held = w.map.held;
          order = w.map.order;
          within = w.map.within;
          some = omega (arith, placed.many, some-pieces);
          fits = out-length;
          room = omega (arith, held-used, placed.many, grows l n s write-writable m e, z.taken.nodes, slots_same, w.map.long, z.shape.extents);
          joins = λ t. let one = joins-some t in let b : 1 ≤ a = omega (arith, w.from) in (b, omega (arith, short b, short-piece));
        }

        module _ (ext' : List ℕ) (v : ℕ) (q : Becomes (length ext) (put_in a m.joined (slots_from out' 0 r) (without a c (slots_from ext 0 u))) ext' v) where
          after : put_in a m.joined (slots_from out' 0 r) (without a c (slots_from ext 0 u)) ≡ extents (puts l n (device_of s))
          after =
              let es = extents-in_use s z.shape z.sound in
              ap (λ (i : ℕ). put_in i m.joined (slots_from out' 0 r) (without a c (slots_from ext 0 u))) w.from
              ∙ ap₂ (λ (ps cs : List Extent). put_in m.sides.before m.joined ps cs) listed (w.map.is ∙ ap (cut l (l + n)) (sym es))
              ∙ put-extents l n (device_of s) storable.sound z.taken.range.some z.taken.pages z.taken.range.inside m.sides.before m.joined
              (e.sides.before ∙ ap (starts_before l) (sym es))
              (e.joined write-writable ∙ (unfold device_of in ap (left_join s.head.pages (extent l (first_place l n (device_of s)) 1)) (sym es)))

          -- ---- all of it

          used-is : v ≡ length (extents (puts l n (device_of s)))
          used-is = q.used ∙ ap length after

          ext_is : ext' ≡ (words_of (puts l n (device_of s))).extent_words
          ext_is =
              let x : length ext ≡ 3 * (puts l n (device_of s)).slots = omega (arith, w.map.long, z.shape.extents, slots_same) in
              q.is ∙ ap₂ padded x after ∙ padded-words (puts l n (device_of s))

          valid-is : (b : ℕ) → b < s.head.blocks → valid (puts l n (device_of s)) b ≡ valid_word blk' b
          valid-is b h =
              omega (
                arith,
                over_rise 0 l n (device_of s) storable.sound z.taken.pages z.taken.range.inside b (omega (arith, device-blocks s)),
                placed.valid b (omega (arith, device-blocks s)),
                valid-at b h,
              )

          blk_is : blk' ≡ records (puts l n (device_of s)).fills 0 (valid (puts l n (device_of s)))
          blk_is =
              sym (ap (λ (fs : List ℕ). records fs 0 (valid (puts l n (device_of s)))) (sym placed.fills ∙ ap (λ (x : ℕ). fills_of x blk') (device-blocks s))
              ∙ words-records s.head.blocks blk' 0 (fill_word blk') (valid (puts l n (device_of s))) (omega (arith, size, blk_length, z.shape.blocks))
              (λ b h. refl)
              (λ b j h g. let y : j ≡ b = omega arith in ap (valid (puts l n (device_of s))) y ∙ valid-is b h))

          abbrev write_head : Last → Head
          write_head last = record {
            blocks = s.head.blocks;
            pages = s.head.pages;
            logical = s.head.logical;
            slots = s.head.slots;
            used = v;
            reserve = s.head.reserve;
            last = last;
          }

          put : Puts (device_of s) (puts l n (device_of s)) n
          put = puts-all l n (device_of s) storable.sound z.taken.pages z.taken.range.inside

          pages-same : s.head.pages ≡ (puts l n (device_of s)).pages
          unfolding puts device_of
          pages-same = sym (puts-pages l _ (device_of s))

          reserve-same : s.head.reserve ≡ (puts l n (device_of s)).reserve
          unfolding puts device_of
          reserve-same = sym (puts-reserve l _ (device_of s))

          pub write-leaves : (last : Last) → last ≡ kept k → lent (write_head last) ext' blk' spare' ≡ words_of (leaves (Call.write k l n out) (device_of s))
          unfolding leaves written numbered with_table words_of head_of extents valid mapped
          write-leaves last g = λ i. lent
              (record {
                blocks = (sym (device-blocks s) ∙ sym put.blocks) i;
                pages = pages-same i;
                logical = (sym (device-lines s) ∙ sym put.lines) i;
                slots = sym slots_same i;
                used = used-is i;
                reserve = reserve-same i;
                last = g i;
              })
              (ext_is i)
              (blk_is i)
              (placed.spare i)

          pub write-counts : r ∷ [] ≡ counts (Call.write k l n out) (device_of s)
          unfolding counts
          write-counts = ap (λ (x : ℕ). x ∷ []) placed.many

          pub write-lists : out' ≡ over (lists (Call.write k l n out) (device_of s)) out
          unfolding lists
          write-lists = placed.answer

          pub write-few : v ≤ 8192
          write-few = omega (arith, used-is, z.taken.nodes, slots_same, z.shape.sizes.m-high)
