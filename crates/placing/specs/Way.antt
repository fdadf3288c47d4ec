-- The way of a write over the blocks: what is left to do comes to what there was to do, and in the end to the rules' pieces, fills and labels.
use Prim.Native.Nat.{ℕ, suc, ◌+◌, ◌-◌, ◌*◌, ◌≤◌, ◌<◌}
use Rattle.std.specs.Prelude.{◌≡◌, refl, eqb}
use Rattle.std.proofs.Math.Path.{sym, ap, ap₂}
use Rattle.std.proofs.Common.{◌∙◌, mul-le-mul}
use mathlib.Core.List.{List, [], ◌∷◌, ◌++◌}
use Rattle.std.proofs.Math.Logic.{by_cases}
use native.Mathlib.Omega.{arith}
use Rattle.std.proofs.Math.Decide.{dec_lt}
use Rattle.std.proofs.Math.ListN.{length, get_or, take, drop}
use Rattle.std.proofs.Math.Seq.{sets, sets-eq, length-sets}
use Rattle.rules.specs.Counting.{count, tabulate}
use Rattle.rules.specs.Extents.{none, flat}
use Rattle.rules.specs.Blocks.{stride, fill_word, valid_word, HasBlock}
use Rattle.rules.specs.Device.{blocks}
use Rattle.rules.specs.Placement.{targets, puts, pieces}
use Rattle.rules.specs.Calls.{over}
use Rattle.rules.specs.declared.Extent.{Extent}
use Rattle.laws.specs.Slots.{flat-length}
use Rattle.laws.specs.Cells.{block_le, length-tabulate, get_or-tabulate, tabulate-same}
use Rattle.laws.specs.Spread.{with_piece, spread, filled, labelled, listed-none, listed-some, taken_le, taken-room}
use Rattle.laws.specs.Order.{puts-filled, puts-labelled}
use Rattle.laws.specs.Rises.{puts_rise}
use Rattle.starting.specs.Bare.{fills_of, bare}
use Rattle.placing.specs.Blocks.{raised, raises, raised-length, raised_rise, raised-after, raises-before, raises-fills, raises_rise, raises-nothing}
use Rattle.starting.specs.Rest.{rest, takes, page-small, fills_split, fills-take, fills-drop, rest-next, rest_end, rest-done}
use Rattle.starting.specs.Starts.{start_le, bare-pieces}
use Rattle.placing.specs.Place.{piece_in, RoomFor, PlacedIn, Placeable, Placed}

-- ---- a piece in front of others

labelled-listed : (e : Extent) (es : List Extent) (s : List ℕ) → labelled (with_piece e es) s ≡ labelled es (sets s e.physical (tabulate e.count (λ i. e.logical + i)))
unfolding labelled tabulate
labelled-listed e es s =
    by_cases (dec_lt 0 e.count)
    (λ h. ap (λ (xs : List Extent). labelled xs s) (listed-some e es h))
    (λ h. let z : e.count ≡ 0 = omega arith in
    ap (λ (xs : List Extent). labelled xs s) (listed-none e es z)
    ∙ sym (ap (λ (c : ℕ). labelled es (sets s e.physical (tabulate c (λ i. e.logical + i)))) z))

flat-listed : (e : Extent) (es : List Extent) (out : List ℕ) (k r : ℕ) → r ≡ k + length (with_piece e [])
    → sets out (3 * k) (flat (with_piece e es)) ≡ sets (sets out (3 * k) (flat (with_piece e []))) (3 * r) (flat es)
unfolding flat
flat-listed e es out k r h =
    by_cases (dec_lt 0 e.count)
    (λ s. let z : suc (suc (suc (3 * k))) ≡ 3 * r = omega (arith, ap length (listed-some e [] s)) in
    ap (λ (xs : List Extent). sets out (3 * k) (flat xs)) (listed-some e es s)
    ∙ ap (λ (j : ℕ). sets (sets out (3 * k) (e.logical ∷ e.physical ∷ e.count ∷ [])) j (flat es)) z
    ∙ sym (ap (λ (xs : List Extent). sets (sets out (3 * k) (flat xs)) (3 * r) (flat es)) (listed-some e [] s)))
    (λ s. let c : e.count ≡ 0 = omega arith in
    let z : 3 * k ≡ 3 * r = omega (arith, ap length (listed-none e [] c)) in
    ap (λ (xs : List Extent). sets out (3 * k) (flat xs)) (listed-none e es c)
    ∙ ap (λ (j : ℕ). sets out j (flat es)) z
    ∙ sym (ap (λ (xs : List Extent). sets (sets out (3 * k) (flat xs)) (3 * r) (flat es)) (listed-none e [] c)))

length-listed : (e : Extent) (es : List Extent) → length (with_piece e es) ≡ length (with_piece e []) + length es
length-listed e es =
    by_cases (dec_lt 0 e.count)
    (λ s. omega (arith, ap length (listed-some e es s), ap length (listed-some e [] s)))
    (λ s. let c : e.count ≡ 0 = omega arith in omega (arith, ap length (listed-none e es c), ap length (listed-none e [] c)))

listed_le : (e : Extent) → length (with_piece e []) ≤ 1
listed_le e =
    by_cases (dec_lt 0 e.count)
    (λ s. omega (arith, ap length (listed-some e [] s)))
    (λ s. omega (arith, ap length (listed-none e [] (omega arith))))

-- ---- the way

-- blocks from the first one up to b have taken `done` pages in k pieces; what is left to do comes to what there was to do at the start
pub record Placing (n reserve blocks from l want : ℕ) (blk₀ spare₀ out₀ blk spare out : List ℕ) (b done k : ℕ) : Type 0 where
  pub inside : b ≤ blocks
  pub few : done ≤ want
  pub rank : k ≤ b
  pub blk_size : length blk ≡ length blk₀
  pub spare-size : length spare ≡ length spare₀
  pub out-size : length out ≡ length out₀
  pub valid : (j : ℕ) → j < blocks → valid_word blk j ≤ fill_word blk j
  pub records : raises n reserve (blocks - b) b (want - done) blk ≡ raises n reserve (blocks - from) from want blk₀
  pub labels : labelled (rest n reserve blocks blk b (l + done) (want - done)) spare ≡ labelled (rest n reserve blocks blk₀ from l want) spare₀
  pub listing : sets out (3 * k) (flat (rest n reserve blocks blk b (l + done) (want - done))) ≡ sets out₀ 0 (flat (rest n reserve blocks blk₀ from l want))
  pub counting : k + length (rest n reserve blocks blk b (l + done) (want - done)) ≡ length (rest n reserve blocks blk₀ from l want)

module _ (n reserve blocks from l want : ℕ) (blk₀ spare₀ out₀ : List ℕ) (q : Placeable blocks n reserve from l want blk₀ spare₀ out₀) where
  pub placing_start : Placing n reserve blocks from l want blk₀ spare₀ out₀ blk₀ spare₀ out₀ from 0 0
  placing_start =
      let z : l + 0 ≡ l = omega arith in
      let w : want - 0 ≡ want = omega arith in
      let same = ap₂ (λ (x y : ℕ). rest n reserve blocks blk₀ from x y) z w in
      record {
        inside = start_le n reserve blocks blk₀ want from q.start;
        few = omega arith;
        rank = omega arith;
        blk_size = refl;
        spare-size = refl;
        out-size = refl;
        valid = q.valid;
        records = ap (λ (y : ℕ). raises n reserve (blocks - from) from y blk₀) w;
        labels = ap (λ (es : List Extent). labelled es spare₀) same;
        listing = ap (λ (es : List Extent). sets out₀ 0 (flat es)) same;
        counting = omega (arith, ap length same);
      }

rest-step : (n reserve blocks : ℕ) (blk : List ℕ) (b l want m : ℕ) → b < blocks → HasBlock blk b → m ≡ takes n reserve blocks blk b want
    → rest n reserve blocks blk b l want ≡ with_piece (piece_in blk b n l m) (rest n reserve blocks (raised m b blk) (b + 1) (l + m) (want - m))
unfolding rest
rest-step n reserve blocks blk b l want m h s t =
    rest-next n reserve blocks blk b l want h
    ∙ ap (λ (x : ℕ). with_piece (piece_in blk b n l x) (rest n reserve blocks blk (b + 1) (l + x) (want - x))) (sym t)
    ∙ ap (λ (fs : List ℕ). with_piece (piece_in blk b n l m) (spread n reserve fs (b + 1) (l + m) (want - m)))
    (sym (raised-after m b blk s (blocks - (b + 1)) (b + 1) (omega arith)))

-- the pieces of the way are the rules'
pages-few : (blocks n : ℕ) → blocks ≤ 1024 → n ≤ 256 → blocks * n ≤ none
pages-few blocks n s t = omega (arith, mul-le-mul {n₁ = blocks} {m₁ = n} {n₂ = 1024} {m₂ = 256} s t)

module _ (blocks n reserve from l want : ℕ) (blk spare out : List ℕ) (q : Placeable blocks n reserve from l want blk spare out) where
  words : blocks * n ≤ none
  words = pages-few blocks n q.blocks-few q.pages-few

  inside : from ≤ blocks
  inside = start_le n reserve blocks blk want from q.start

  pub ready-pieces : rest n reserve blocks blk from l want ≡ pieces l want (bare blocks n reserve blk spare)
  ready-pieces = bare-pieces blocks n reserve blk spare l want from words q.some q.room q.start

  ready-spare : labelled (rest n reserve blocks blk from l want) spare ≡ (puts l want (bare blocks n reserve blk spare)).spare
  unfolding bare
  ready-spare =
      ap (λ (es : List Extent). labelled es spare) ready-pieces
      ∙ sym (puts-labelled want l (bare blocks n reserve blk spare) (rw (length-tabulate blocks (fill_word blk)) words) q.room)

  ready-answer : sets out 0 (flat (rest n reserve blocks blk from l want)) ≡ over (flat (pieces l want (bare blocks n reserve blk spare))) out
  unfolding over
  ready-answer =
      let ws = flat (pieces l want (bare blocks n reserve blk spare)) in
      let z : 0 + length ws ≡ length ws = omega arith in
      ap (λ (es : List Extent). sets out 0 (flat es)) ready-pieces
      ∙ sets-eq ws out 0 (omega (arith, flat-length (pieces l want (bare blocks n reserve blk spare)), q.slots))
      ∙ ap (λ (k : ℕ). ws ++ drop k out) z

  abbrev after : List ℕ
  after = raises n reserve (blocks - from) from want blk

  ready-size : stride * (from + (blocks - from)) ≤ length blk
  ready-size = omega (arith, q.blk_size, inside)

  -- the fills of the blocks before the first one stay
  ready-before : tabulate from (fill_word after) ≡ take from (fills_of blocks blk)
  ready-before =
      tabulate-same from (fill_word after) (fill_word blk) (λ c h. raises-before n reserve (blocks - from) from want blk ready-size c h)
      ∙ sym (fills-take blocks from blk inside)

  ready-fills : fills_of blocks after ≡ (puts l want (bare blocks n reserve blk spare)).fills
  unfolding bare
  ready-fills =
      fills_split blocks from after inside
      ∙ ap₂ (λ (xs ys : List ℕ). xs ++ ys) ready-before (raises-fills n reserve (blocks - from) from want blk ready-size
      ∙ ap (λ (fs : List ℕ). filled n reserve fs from want) (sym (fills-drop blocks from blk inside)))
      ∙ ap (λ (s : ℕ). take s (fills_of blocks blk) ++ filled n reserve (drop s (fills_of blocks blk)) s want) q.start
      ∙ sym (puts-filled want (bare blocks n reserve blk spare) q.some l q.room)

  ready-valid : (b : ℕ) → b < blocks → valid_word after b ≡ valid_word blk b + count want (λ i. eqb (get_or (targets l want (bare blocks n reserve blk spare)) i 0) b)
  unfolding bare
  ready-valid b h =
      omega (
        arith,
        raises_rise n reserve (blocks - from) from want blk ready-size b,
        get_or-tabulate blocks (fill_word after) b 0 h,
        ap (λ (fs : List ℕ). get_or fs b 0) ready-fills,
        puts_rise l want (bare blocks n reserve blk spare) b (omega (arith, length-tabulate blocks (fill_word blk))),
        get_or-tabulate blocks (fill_word blk) b 0 h,
      )

  ready-blocks : length (bare blocks n reserve blk spare).fills ≡ blocks
  unfolding bare
  ready-blocks = length-tabulate blocks (fill_word blk)

  pub ready-placed : (blk' spare' out' : List ℕ) (r : ℕ) → blk' ≡ after
      → spare' ≡ labelled (rest n reserve blocks blk from l want) spare
      → out' ≡ sets out 0 (flat (rest n reserve blocks blk from l want))
      → r ≡ length (rest n reserve blocks blk from l want)
      → Placed (bare blocks n reserve blk spare) l want blk out blk' spare' out' r
  ready-placed blk' spare' out' r records labels listing many = record {
    many = many ∙ ap length ready-pieces;
    answer = listing ∙ ready-answer;
    spare = labels ∙ ready-spare;
    fills = ap₂ (λ (k : ℕ) (ws : List ℕ). fills_of k ws) ready-blocks records ∙ ready-fills;
    valid = λ b h. ap (λ (ws : List ℕ). valid_word ws b) records ∙ ready-valid b (omega (arith, ready-blocks));
  }

-- ---- one block more

module _ (n reserve blocks from l want : ℕ) (blk₀ spare₀ out₀ : List ℕ) (q : Placeable blocks n reserve from l want blk₀ spare₀ out₀)
    (blk spare out : List ℕ) (b done k : ℕ) (p : Placing n reserve blocks from l want blk₀ spare₀ out₀ blk spare out b done k) where
  module _ (m : ℕ) (h : b < blocks) (t : m ≡ takes n reserve blocks blk b (want - done)) where
    step-inside : HasBlock blk b
    step-inside = omega (arith, q.blk_size, p.blk_size)

    step_le : done + m ≤ want
    step_le = omega (arith, taken_le n reserve b (fill_word blk b) (want - done), p.few)

    -- the pieces from here on: block b's, and the others'
    step-rest : rest n reserve blocks blk b (l + done) (want - done)
        ≡ with_piece (piece_in blk b n (l + done) m) (rest n reserve blocks (raised m b blk) (b + 1) (l + (done + m)) (want - (done + m)))
    step-rest =
        let x : l + done + m ≡ l + (done + m) = omega arith in
        let y : want - done - m ≡ want - (done + m) = omega arith in
        rest-step n reserve blocks blk b (l + done) (want - done) m h step-inside t
        ∙ ap₂ (λ (i j : ℕ). with_piece (piece_in blk b n (l + done) m) (rest n reserve blocks (raised m b blk) (b + 1) i j)) x y

    pub placing_fits : RoomFor blk spare out b n (l + done) m k
    placing_fits = record {
      inside = step-inside;
      small = page-small blocks n b n h q.blocks-few q.pages-few (omega arith);
      whole = omega (arith, block_le n b blocks h, q.spare-size, p.spare-size);
      below = λ s. rw t (taken-room n reserve b (fill_word blk b) (want - done) (omega arith));
      valid = p.valid b h;
      lines = omega (arith, step_le, q.lines);
      few = p.rank;
      block = omega (arith, q.blocks-few);
      slot = λ s. let e = piece_in blk b n (l + done) m in
          let es = rest n reserve blocks (raised m b blk) (b + 1) (l + (done + m)) (want - (done + m)) in
          omega (
            arith,
            p.counting,
            ap length step-rest,
            ap length (listed-some e es s),
            q.slots,
            p.out-size,
            ap length (ready-pieces blocks n reserve from l want blk₀ spare₀ out₀ q),
          );
    }

    pub placing_step : (blk' spare' out' : List ℕ) (r : ℕ) → PlacedIn blk spare out blk' spare' out' b n (l + done) m k r
        → Placing n reserve blocks from l want blk₀ spare₀ out₀ blk' spare' out' (b + 1) (done + m) r
    unfolding raises
    placing_step blk' spare' out' r w =
        let e = piece_in blk b n (l + done) m in
        let es = rest n reserve blocks (raised m b blk) (b + 1) (l + (done + m)) (want - (done + m)) in
        let z : blocks - b ≡ suc (blocks - (b + 1)) = omega arith in
        let y : want - done - m ≡ want - (done + m) = omega arith in
        let now = ap (λ (ws : List ℕ). rest n reserve blocks ws (b + 1) (l + (done + m)) (want - (done + m))) w.records in
        record {
          inside = omega arith;
          few = step_le;
          rank = omega (arith, w.many, listed_le e, p.rank);
          blk_size = ap length w.records ∙ raised-length m b blk ∙ p.blk_size;
          spare-size = ap length w.labels ∙ length-sets spare (b * n + fill_word blk b) (tabulate m (λ i. l + done + i)) ∙ p.spare-size;
          out-size = ap length w.pieces ∙ length-sets out (3 * k) (flat (with_piece e [])) ∙ p.out-size;
          valid = λ j s. omega (
            arith,
            raised_rise m b blk step-inside j,
            p.valid j s,
            ap (λ (ws : List ℕ). valid_word ws j) w.records,
            ap (λ (ws : List ℕ). fill_word ws j) w.records,
          );
          records = ap₂ (λ (x : ℕ) (ws : List ℕ). raises n reserve (blocks - (b + 1)) (b + 1) x ws) (sym y) w.records
              ∙ ap (λ (x : ℕ). raises n reserve (blocks - (b + 1)) (b + 1) (want - done - x) (raised x b blk)) t
              ∙ sym (ap (λ (x : ℕ). raises n reserve x b (want - done) blk) z)
              ∙ p.records;
          labels = ap₂ (λ (xs : List Extent) (s : List ℕ). labelled xs s) now w.labels
              ∙ sym (labelled-listed e es spare)
              ∙ ap (λ (xs : List Extent). labelled xs spare) (sym step-rest)
              ∙ p.labels;
          listing = ap₂ (λ (xs : List Extent) (ws : List ℕ). sets ws (3 * r) (flat xs)) now w.pieces
              ∙ sym (flat-listed e es out k r w.many)
              ∙ ap (λ (xs : List Extent). sets out (3 * k) (flat xs)) (sym step-rest)
              ∙ p.listing;
          counting = omega (arith, ap length now, w.many, length-listed e es, ap length step-rest, p.counting);
        }

  -- nothing is left to do: no block, or no page
  placing_over : raises n reserve (blocks - b) b (want - done) blk ≡ blk → rest n reserve blocks blk b (l + done) (want - done) ≡ []
      → Placed (bare blocks n reserve blk₀ spare₀) l want blk₀ out₀ blk spare out k
  unfolding labelled flat
  placing_over same over =
      ready-placed blocks n reserve from l want blk₀ spare₀ out₀ q blk spare out k
      (sym same ∙ p.records)
      (sym (ap (λ (xs : List Extent). labelled xs spare) over) ∙ p.labels)
      (sym (ap (λ (xs : List Extent). sets out (3 * k) (flat xs)) over) ∙ p.listing)
      (omega (arith, ap length over, p.counting))

  pub placing_end : blocks ≤ b → Placed (bare blocks n reserve blk₀ spare₀) l want blk₀ out₀ blk spare out k
  unfolding raises
  placing_end h =
      let z : blocks - b ≡ 0 = omega arith in
      placing_over (ap (λ (x : ℕ). raises n reserve x b (want - done) blk) z) (rest_end n reserve blocks blk b (l + done) (want - done) h)

  pub placing_done : done ≡ want → Placed (bare blocks n reserve blk₀ spare₀) l want blk₀ out₀ blk spare out k
  placing_done e =
      let z : want - done ≡ 0 = omega arith in
      placing_over (ap (λ (x : ℕ). raises n reserve (blocks - b) b x blk) z ∙ raises-nothing n reserve (blocks - b) b blk)
      (rest-done n reserve blocks blk b (l + done) (want - done) z)
