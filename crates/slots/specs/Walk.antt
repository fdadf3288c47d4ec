-- One walk over the slots in use: what is asked of each, and the pages of each block added up on the way.
use Rattle.std.specs.Prelude.{ℕ, ◌+◌, ◌-◌, ◌*◌, ◌/◌, ◌≤◌, ◌<◌, Bool, ◌≡◌, refl, List, eqb, length, set}
use Rattle.std.proofs.Math.Bool.{true, false, cond}
use Rattle.std.proofs.Common.{true≢false, ◌∙◌, div-lt_iff_lt-mul, add-one, below_more, length-set, get_or-set_same, get_or-set_other}
use Rattle.std.proofs.Math.Path.{sym, ap}
use Rattle.std.proofs.Math.Logic.{by_cases}
use native.Mathlib.Omega.{arith}
use Rattle.std.proofs.Math.Decide.{ℕ_discrete}
use borrow.Author.Tests.{eq-eqb, ne_eqb}
use Rattle.std.proofs.Math.ListN.{get_or}
use Rattle.rules.specs.Counting.{sum}
use Rattle.rules.specs.Extents.{none, slots_from}
use Rattle.laws.specs.Rows.{Rows}
use Rattle.laws.specs.Sound.{pages_in}
use Rattle.laws.specs.Slots.{slots-first}
use Rattle.words.specs.Says.{Says, says-yes, says-no}
use Rattle.windows.specs.Window.{Labelled}
use Rattle.slots.specs.Slot.{half_words, SlotLies, lies_row, row_lies}

-- what the walk is given: words of the right lengths, and a tally of zeros
pub record Given (ext spare tally : List ℕ) (used n : ℕ) : Type 0 where
  pub slots : 3 * used ≤ length ext
  pub few : used ≤ 8192
  pub some : 0 < n
  pub pages-high : n ≤ 256
  pub spares : length spare ≤ 1024 * n
  pub wide : length tally ≡ 1024
  pub zeros : (b : ℕ) → b < 1024 → get_or tally b 0 ≡ 0

-- slot i carries its labels
abbrev pub LabelsOf : List ℕ → List ℕ → ℕ → Type 0
LabelsOf ext spare i = Labelled spare (get_or ext (3 * i) 0) (get_or ext (3 * i + 1) 0) (get_or ext (3 * i + 2) 0)

-- the slots in use lie as rules 1 and 2 ask, wherever they end, and each carries its labels
pub record Laid (ext spare : List ℕ) (used n : ℕ) : Type 0 where
  pub rows : Rows n 0 none none (slots_from ext 0 used)
  pub low : (i : ℕ) → i < used → get_or ext (3 * i) 0 < half_words
  pub labelled : (i : ℕ) → i < used → LabelsOf ext spare i

-- what the walk says, and the tally that it leaves
pub record Walked (r : Bool) (ext spare tally : List ℕ) (used n : ℕ) : Type 0 where
  pub says : Says r (Laid ext spare used n)
  pub counts : r ≡ true → (b : ℕ) → b < 1024 → get_or tally b 0 ≡ sum used (pages_in ext n b)

-- ---- the loop: the slots before i are right, those from i on stand behind (lo, q)

pub record Left (ext spare tally : List ℕ) (used n i lo q : ℕ) : Type 0 where
  pub within : i ≤ used
  pub word : lo ≤ none
  pub back : Rows n lo q none (slots_from ext i (used - i)) → Rows n 0 none none (slots_from ext 0 used)
  pub on : Rows n 0 none none (slots_from ext 0 used) → Rows n lo q none (slots_from ext i (used - i))
  pub low : (j : ℕ) → j < i → get_or ext (3 * j) 0 < half_words
  pub labelled : (j : ℕ) → j < i → LabelsOf ext spare j
  pub wide : length tally ≡ 1024
  pub counts : (b : ℕ) → b < 1024 → get_or tally b 0 ≡ sum i (pages_in ext n b)
  pub small : (b : ℕ) → b < 1024 → get_or tally b 0 ≤ 256 * i

module _ (ext : List ℕ) (n i : ℕ) where
  sum-next : (f : ℕ → ℕ) → sum (i + 1) f ≡ sum i f + f i
  unfolding sum
  sum-next f = rw (add-one i)

  pages-few : (b : ℕ) → pages_in ext n b i ≤ get_or ext (3 * i + 2) 0
  unfolding pages_in
  pages-few b = go (eqb (get_or ext (3 * i + 1) 0 / n) b)
    where
      go : (t : Bool) → cond t (get_or ext (3 * i + 2) 0) 0 ≤ get_or ext (3 * i + 2) 0
      go true = omega arith
      go false = omega arith

  -- the pages of slot i added to its block
  tally-more : (tally : List ℕ) (x : ℕ) → x ≡ get_or ext (3 * i + 1) 0 / n → x < length tally → (b : ℕ)
      → get_or (set tally x (get_or tally x 0 + get_or ext (3 * i + 2) 0)) b 0 ≡ get_or tally b 0 + pages_in ext n b i
  unfolding pages_in
  tally-more tally x e h b =
      let c = get_or ext (3 * i + 2) 0 in
      let p = get_or ext (3 * i + 1) 0 in
      by_cases (ℕ_discrete b x)
      (λ s. rw (s, eq-eqb (p / n) x (sym e)) (get_or-set_same tally x (get_or tally x 0 + c) 0 h))
      (λ s. rw (ne_eqb (p / n) b (λ t. s (sym t ∙ sym e))) (get_or-set_other tally x b (get_or tally x 0 + c) 0 s ∙ omega arith))

module _ {ext spare tally : List ℕ} {used n : ℕ} (g : Given ext spare tally used n) where
  pub left-start : Left ext spare tally used n 0 0 none
  unfolding sum
  left-start =
      let e : used - 0 ≡ used = omega arith in
      record {
        within = omega arith;
        word = omega arith;
        back = λ h. rw e at h;
        on = λ h. rw e h;
        low = λ j s. absurd (omega arith);
        labelled = λ j s. absurd (omega arith);
        wide = g.wide;
        counts = g.zeros;
        small = λ b s. omega (arith, g.zeros b s);
      }

  -- a page of a slot belongs to a block that the tally has
  pub in_tally : {l p c : ℕ} → 0 < c → Labelled spare l p c → p / n < 1024
  in_tally {l} {p} {c} some w = (div-lt_iff_lt-mul {k = n} {x = p} {y = 1024} g.some).1 (omega (arith, w.ends, g.spares))

module _ {ext spare tally : List ℕ} {used n i lo q : ℕ} (h : Left ext spare tally used n i lo q) where
  -- a slot that does not lie there
  pub left_bad : i < used → (SlotLies n lo q (get_or ext (3 * i) 0) (get_or ext (3 * i + 1) 0) (get_or ext (3 * i + 2) 0) → ⊥) → Laid ext spare used n → ⊥
  left_bad s g r =
      let t = rw (slots-first ext i used s) at (h.on r.rows) in
      g (row_lies t.0 (r.low i s))

  module _ (s : i < used) (pages : n ≤ 256) (spares : length spare ≤ 262144) (b : get_or ext (3 * i + 1) 0 / n < 1024)
      (g : SlotLies n lo q (get_or ext (3 * i) 0) (get_or ext (3 * i + 1) 0) (get_or ext (3 * i + 2) 0)) (k : LabelsOf ext spare i) where
    pub left_step : Left ext spare (set tally (get_or ext (3 * i + 1) 0 / n) (get_or tally (get_or ext (3 * i + 1) 0 / n) 0 + get_or ext (3 * i + 2) 0)) used n
        (i + 1) (get_or ext (3 * i) 0 + get_or ext (3 * i + 2) 0) (get_or ext (3 * i + 1) 0 + get_or ext (3 * i + 2) 0)
    left_step =
        let x = get_or ext (3 * i + 1) 0 / n in
        let more : (b : ℕ) → get_or (set tally x (get_or tally x 0 + get_or ext (3 * i + 2) 0)) b 0 ≡ get_or tally b 0 + pages_in ext n b i =
        tally-more ext n i tally x refl (omega (arith, h.wide)) in
        record {
          within = omega arith;
          word = omega (arith, g.low, g.inside);
          back = λ r. h.back (rw (slots-first ext i used s) (lies_row spares g k, r));
          on = λ r. (rw (slots-first ext i used s) at (h.on r)).1;
          low = below_more _ _ h.low g.low;
          labelled = below_more _ _ h.labelled k;
          wide = length-set tally x (get_or tally x 0 + get_or ext (3 * i + 2) 0) ∙ h.wide;
          counts = λ b t. omega (arith, more b, h.counts b t, sum-next ext n i (pages_in ext n b));
          small = λ b t. omega (arith, more b, h.small b t, pages-few ext n i b, g.inside);
        }

  pub left_end : used ≤ i → Walked true ext spare tally used n
  unfolding slots_from
  left_end s =
      let none_left : used - i ≡ 0 = omega arith in
      let all : i ≡ used = omega arith in
      record {
        says = says-yes (record { rows = h.back (rw none_left h.word); low = λ j t. h.low j (omega arith); labelled = λ j t. h.labelled j (omega arith) });
        counts = λ e b t. h.counts b t ∙ ap (λ (u : ℕ). sum u (pages_in ext n b)) all;
      }

-- a walk that ends early
pub walk_no : {ext spare tally : List ℕ} {used n : ℕ} → (Laid ext spare used n → ⊥) → Walked false ext spare tally used n
walk_no h = record { says = says-no h; counts = λ e. absurd (true≢false (sym e)) }
