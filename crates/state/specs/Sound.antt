-- Refusal 2 put together: a state is sound exactly where its slots, its blocks and its reserve are right.
use Rattle.std.specs.Prelude.{ℕ, ◌+◌, ◌-◌, ◌*◌, ◌/◌, ◌%◌, ◌≤◌, ◌<◌, Bool, true, false, ◌≡◌, List, eqb, length, get_or, take, drop, replicate}
use Rattle.std.proofs.Common.{sym, ap, ◌∙◌, arith, mul-le-mul, div-add-mod', div-lt_iff_lt-mul}
use Rattle.std.proofs.Math.Logic.{by_cases}
use Rattle.std.proofs.Math.Decide.{dec_lt}
use Rattle.std.proofs.lemmas.List.{length-replicate, get_or-replicate}
use Rattle.rules.specs.Counting.{sum, all}
use Rattle.rules.specs.Blocks.{fill_word, valid_word}
use Rattle.rules.specs.Extents.{none, end, slot, slots_from}
use Rattle.rules.specs.Lent.{lent}
use Rattle.rules.specs.Shape.{shape, shaped}
use Rattle.rules.specs.Sound.{sound}
use Rattle.rules.specs.declared.Head.{Head}
use Rattle.rules.specs.declared.Extent.{Extent}
use Rattle.laws.specs.Sound.{Shaped, SoundState, pages_in}
use Rattle.laws.specs.Shapes.{shaped-true, lines-pages, pages-high}
use Rattle.laws.specs.Rows.{Rows}
use Rattle.laws.specs.Ranked.{Ranked, ranked-rows, rows-ranked}
use Rattle.laws.specs.Cells.{block_le}
use Rattle.laws.specs.Sounds.{sound-state, state-sound}
use Rattle.words.specs.Says.{Says, says_for, is-no, is_said}
use Rattle.words.specs.Scans.{part-mid, same-says}
use Rattle.slots.specs.Walk.{Given, Laid}
use Rattle.blocks.specs.Block.{Framed, Block}

-- what the head says of the words: rule 1 on slots in use and not, and rule 6
pub record Headed (h : Head) (ext blk : List ℕ) : Type 0 where
  pub few : h.used ≤ h.slots
  pub kept : h.reserve < h.blocks
  pub empty : fill_word blk h.reserve ≡ 0
  pub zeros : (k : ℕ) → 3 * h.used ≤ k → k < length ext → get_or ext k 0 ≡ 0

-- a scan of the unused slots decides
pub headed_says : (h : Head) (ext blk : List ℕ) (r : Bool) → length ext ≡ 3 * h.slots → h.used ≤ h.slots → h.reserve < h.blocks → fill_word blk h.reserve ≡ 0
    → r ≡ all (length (take (length ext - 3 * h.used) (drop (3 * h.used) ext))) (λ k. eqb (get_or (take (length ext - 3 * h.used) (drop (3 * h.used) ext)) k 0) 0)
    → Says r (Headed h ext blk)
headed_says h ext blk r long few kept empty said =
    let u = 3 * h.used in
    says_for (same-says (part-mid u (length ext) (length ext - u) ext (omega arith) (omega arith)) r 0 0 said)
    (λ g. record {
      few = few;
      kept = kept;
      empty = empty;
      zeros = λ k s t. let at : u + (k - u) ≡ k = omega arith in sym (ap (λ (j : ℕ). get_or ext j 0) at) ∙ g (k - u) (omega arith);
    })
    (λ g k s. g.zeros (u + k) (omega arith) (omega arith))

module _ (h : Head) (ext blk spare : List ℕ) (z : shape h (length ext) (length blk) (length spare) ≡ true) where
  pub lent-shaped : Shaped (lent h ext blk spare)
  unfolding shaped
  lent-shaped = shaped-true (lent h ext blk spare) z

  abbrev Ruled : Type 0
  Ruled = (b : ℕ) → b < h.blocks → Block blk spare h.pages h.logical b

  lines-low : h.logical ≤ 262144
  lines-low = let s = lent-shaped.sizes in omega (arith, lines-pages s, pages-high s)

  -- the labels may be tested
  pub labels_framed : Framed blk spare h.blocks h.pages h.logical
  labels_framed = let s = lent-shaped in record { records = s.blocks; spares = s.spare; lines = s.sizes.l_low }

  -- the walk may begin, with a tally of zeros
  pub walk-given : Headed h ext blk → Given ext spare (replicate 1024 0) h.used h.pages
  walk-given g =
      let s = lent-shaped in
      let sizes = s.sizes in
      record {
        slots = omega (arith, s.extents, g.few);
        few = omega (arith, g.few);
        some = sizes.n-low;
        pages-high = sizes.n-high;
        spares = omega (arith, s.spare, mul-le-mul {n₁ = h.blocks} {m₁ = h.pages} {n₂ = 1024} {m₂ = h.pages} sizes.b-high (omega arith));
        wide = length-replicate {A = ℕ} 1024 0;
        zeros = λ b t. get_or-replicate {A = ℕ} 1024 b 0 0 t;
      }

  unsound : (SoundState (lent h ext blk spare) → ⊥) → false ≡ sound (lent h ext blk spare)
  unsound = is-no (sound (lent h ext blk spare)) (sound-state (lent h ext blk spare) lent-shaped)

  pub head-no : (Headed h ext blk → ⊥) → false ≡ sound (lent h ext blk spare)
  head-no g = unsound (λ s. g (record { few = s.few; kept = s.kept; empty = s.empty; zeros = s.zeros }))

  pub ruled_no : (Ruled → ⊥) → false ≡ sound (lent h ext blk spare)
  ruled_no g = unsound (λ s. g (λ b t. record { full = s.full b t; labels = λ o u. s.labels b o t u; blank = λ o u v. s.blank b o t u v }))

  -- what a sound state asks of its slots is more than the walk asks
  sound-laid : SoundState (lent h ext blk spare) → Laid ext spare h.used h.pages
  sound-laid s =
      let n = h.pages in
      let r = rows-ranked n h.logical ext h.used s.rows in
      record {
        rows = ranked-rows n none ext h.used (record {
          some = r.some;
          rising = r.rising;
          high = λ i t. omega (arith, r.high i t, lines-low);
          inside = r.inside;
          small = r.small;
          apart = r.apart;
        });
        low = λ i t. omega (arith, r.high i t, lines-low);
        labelled = λ i t. let p = (slot ext i).physical in record {
          ends = omega (arith, r.inside i t, div-add-mod' p n, block_le n (p / n) h.blocks (s.inside i t), lent-shaped.spare);
          each = λ k u. s.labelled i k t u;
        };
      }

  pub slots-no : (Laid ext spare h.used h.pages → ⊥) → false ≡ sound (lent h ext blk spare)
  slots-no g = unsound (λ s. g (sound-laid s))

  -- rule 3 and the labels of a slot: its last page lies below the fill, as its label is no `none`, and so its last logical page below L
  module _ (f : Ruled) (w : Laid ext spare h.used h.pages) where
    ranked : Ranked h.pages none ext h.used
    ranked = rows-ranked h.pages none ext h.used w.rows

    module _ (i : ℕ) (t : i < h.used) where
      abbrev x : Extent
      x = slot ext i

      laid-inside : x.physical / h.pages < h.blocks
      laid-inside =
          (div-lt_iff_lt-mul {k = h.pages} {x = x.physical} {y = h.blocks} lent-shaped.sizes.n-low
          ).1 (omega (arith, (w.labelled i t).ends, ranked.some i t, lent-shaped.spare))

      last : (x.physical % h.pages + x.count ≤ fill_word blk (x.physical / h.pages)) × (end x ≤ h.logical)
      last =
          let b = x.physical / h.pages in
          let o = x.physical % h.pages + (x.count - 1) in
          let at : b * h.pages + o ≡ x.physical + (x.count - 1) = omega (arith, div-add-mod' x.physical h.pages) in
          let is : get_or spare (b * h.pages + o) none ≡ x.logical + (x.count - 1) =
          ap (λ (j : ℕ). get_or spare j none) at ∙ (w.labelled i t).each (x.count - 1) (omega (arith, ranked.some i t)) in
          by_cases (dec_lt o (fill_word blk b))
          (λ u. (omega (arith, ranked.some i t), omega (arith, (f b laid-inside).labels o u, ranked.some i t)))
          (λ u. absurd (omega (
            arith,
            (f b laid-inside).blank o (omega arith) (omega (arith, ranked.some i t, ranked.inside i t)),
            w.low i t,
            ranked.inside i t,
            lent-shaped.sizes.n-high,
          )))

    laid-rows : Rows h.pages 0 none h.logical (slots_from ext 0 h.used)
    laid-rows = ranked-rows h.pages h.logical ext h.used (record {
      some = ranked.some;
      rising = ranked.rising;
      high = λ i t. (last i t).1;
      inside = ranked.inside;
      small = ranked.small;
      apart = ranked.apart;
    })

    -- where head, labels and slots are right the valid counts decide
    pub valid-said : (tally : List ℕ) (r : Bool) → Headed h ext blk
        → ((b : ℕ) → b < 1024 → get_or tally b 0 ≡ sum h.used (pages_in ext h.pages b))
        → Says r ((b : ℕ) → b < h.blocks → valid_word blk b ≡ get_or tally b 0) → r ≡ sound (lent h ext blk spare)
    valid-said tally r g counts said =
        let high : h.blocks ≤ 1024 = lent-shaped.sizes.b-high in
        is_said r (sound (lent h ext blk spare)) (sound-state (lent h ext blk spare) lent-shaped) (state-sound (lent h ext blk spare) lent-shaped)
        (says_for said
        (λ v. record {
          few = g.few;
          rows = laid-rows;
          zeros = g.zeros;
          full = λ b t. (f b t).full;
          labels = λ b o t u. (f b t).labels o u;
          blank = λ b o t u v. (f b t).blank o u v;
          inside = λ i t. laid-inside i t;
          below = λ i t. (last i t).0;
          labelled = λ i k t u. (w.labelled i t).each k u;
          counts = λ b t. v b t ∙ counts b (omega arith);
          kept = g.kept;
          empty = g.empty;
        })
        (λ s b t. s.counts b t ∙ sym (counts b (omega arith))))
