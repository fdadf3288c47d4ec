-- One block after the other: rule 3 for its fill and spare entries; and rule 5 against a tally of its mapped pages.
use Rattle.std.specs.Prelude.{ℕ, ◌+◌, ◌-◌, ◌*◌, ◌≤◌, ◌<◌, Bool, true, false, not, ◌≡◌, refl, List, ltb, eqb, length, get_or, take, drop}
use Rattle.std.proofs.Common.{sym, ap, ◌∙◌, arith, eqb-true, eq-eqb}
use Rattle.std.specs.Int.Bits.{bit_or, bit_xor}
use Rattle.rules.specs.Counting.{all}
use Rattle.rules.specs.Blocks.{stride, fill_word, valid_word}
use Rattle.rules.specs.Extents.{none}
use Rattle.laws.specs.Cells.{block_le}
use Rattle.words.specs.Says.{Says, says_for, says_all, told-no, told-yes}
use Rattle.words.specs.Scan.{scan_bits, scan-end}
use Rattle.words.specs.Scans.{Part, part-mid, part-front, part-word, same-says, below-says}

-- rule 3, of a block's fill and the spare entries of its pages
pub record Labels (fill top : ℕ) (part : List ℕ) : Type 0 where
  pub full : fill ≤ length part
  pub labels : (o : ℕ) → o < fill → get_or part o none < top
  pub blank : (o : ℕ) → fill ≤ o → o < length part → get_or part o none ≡ none

module _ (fill top : ℕ) (part : List ℕ) (h : fill ≤ length part) where
  labels-below : (r : Bool) → r ≡ all (length (take fill part)) (λ k. ltb (get_or (take fill part) k 0) top)
      → Says r ((o : ℕ) → o < fill → get_or part o none < top)
  labels-below r said =
      let at : (o : ℕ) → get_or part (0 + o) none ≡ get_or part o none = λ o. let e : 0 + o ≡ o = omega arith in ap (λ (j : ℕ). get_or part j none) e in
      says_for (below-says (part-front fill part h) r top none said)
      (λ g o s. omega (arith, g o s, at o)) (λ g o s. omega (arith, g o s, at o))

  -- a label too high below the fill
  pub labels-no : (r : Bool) → r ≡ all (length (take fill part)) (λ k. ltb (get_or (take fill part) k 0) top) → not r ≡ true → Labels fill top part → ⊥
  labels-no r said e g = told-no r (labels-below r said) e g.labels

  -- the scan from the fill on decides
  pub labels-says : (q r : Bool) → q ≡ all (length (take fill part)) (λ k. ltb (get_or (take fill part) k 0) top) → not q ≡ false
      → r ≡ all (length (take (length part - fill) (drop fill part))) (λ k. eqb (get_or (take (length part - fill) (drop fill part)) k 0) none)
      → Says r (Labels fill top part)
  labels-says q r low e said =
      says_for (same-says (part-mid fill (length part) (length part - fill) part (omega arith) (omega arith)) r none none said)
      (λ g. record {
        full = h;
        labels = told-yes q (labels-below q low) e;
        blank = λ o s t. let at : fill + (o - fill) ≡ o = omega arith in sym (ap (λ (j : ℕ). get_or part j none) at) ∙ g (o - fill) (omega arith);
      })
      (λ g o s. g.blank (fill + o) (omega arith) (omega arith))

-- ---- the blocks

-- what they are tested on
pub record Framed (blk spare : List ℕ) (blocks n top : ℕ) : Type 0 where
  pub records : length blk ≡ stride * blocks
  pub spares : length spare ≡ blocks * n
  pub lines : 0 < top

-- rule 3 for block b
pub record Block (blk spare : List ℕ) (n top b : ℕ) : Type 0 where
  pub full : fill_word blk b ≤ n
  pub labels : (o : ℕ) → o < fill_word blk b → get_or spare (b * n + o) none < top
  pub blank : (o : ℕ) → fill_word blk b ≤ o → o < n → get_or spare (b * n + o) none ≡ none

module _ {blk spare : List ℕ} {blocks n top b : ℕ} (h : Framed blk spare blocks n top) (s : b < blocks) where
  pub block-ends : b * n + n ≤ length spare
  block-ends = omega (arith, h.spares, block_le n b blocks s)

  own : Part (take (b * n + n - b * n) (drop (b * n) spare)) spare (b * n) n
  own = part-mid (b * n) (b * n + n) n spare refl block-ends

  -- as the test of its part of the spare area puts it, with f its fill
  pub block-labels : (f : ℕ) → f ≡ fill_word blk b → Block blk spare n top b → Labels f top (take (b * n + n - b * n) (drop (b * n) spare))
  block-labels f e g = record {
    full = omega (arith, own.long, g.full);
    labels = λ o t. omega (arith, g.labels o (omega arith), part-word own o none (omega (arith, g.full)));
    blank = λ o t u. part-word own o none (omega (arith, own.long)) ∙ g.blank o (omega arith) (omega (arith, own.long));
  }

  pub labels-block : (f : ℕ) → f ≡ fill_word blk b → Labels f top (take (b * n + n - b * n) (drop (b * n) spare)) → Block blk spare n top b
  labels-block f e g = record {
    full = omega (arith, own.long, g.full);
    labels = λ o t. omega (arith, g.labels o (omega arith), part-word own o none (omega (arith, own.long, g.full)));
    blank = λ o t u. sym (part-word own o none u) ∙ g.blank o (omega arith) (omega (arith, own.long));
  }

-- ---- rule 5

-- block b's valid count is its place in the tally
unfoldable pub tallied : List ℕ → List ℕ → ℕ → Bool
tallied blk tally b = eqb (valid_word blk b) (get_or tally b 0)

pub valid-step : (blk tally : List ℕ) (b off v : ℕ) → v ≡ valid_word blk b → eqb off 0 ≡ all b (tallied blk tally)
    → eqb (bit_or off (bit_xor v (get_or tally b 0))) 0 ≡ all (b + 1) (tallied blk tally)
unfolding tallied
valid-step blk tally b off v e h = scan_bits b (tallied blk tally) off v (get_or tally b 0) h (ap (λ (w : ℕ). eqb w (get_or tally b 0)) (sym e))

pub valid-says : (blk tally : List ℕ) (blocks b off : ℕ) → b ≡ blocks → eqb off 0 ≡ all b (tallied blk tally)
    → Says (eqb off 0) ((k : ℕ) → k < blocks → valid_word blk k ≡ get_or tally k 0)
unfolding tallied
valid-says blk tally blocks b off e h =
    says_all (eqb off 0) blocks (tallied blk tally) (λ k. valid_word blk k ≡ get_or tally k 0) (scan-end b blocks (tallied blk tally) (eqb off 0) h e)
    (λ k s t. eqb-true (valid_word blk k) (get_or tally k 0) t) (λ k s t. eq-eqb (valid_word blk k) (get_or tally k 0) t)
