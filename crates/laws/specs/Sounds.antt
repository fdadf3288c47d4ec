-- The tests of rules 1 to 6 pass exactly where the facts of `SoundState` hold.
use Rattle.std.specs.Prelude.{ℕ, suc, ◌+◌, ◌-◌, ◌*◌, ◌/◌, ◌%◌, ◌≤◌, ◌<◌, Bool, true, false, not, cond, ◌≡◌, refl, leb, ltb, length, get_or}
use Rattle.std.proofs.Math.Path.{sym}
use Rattle.std.proofs.Common.{ap, ◌∙◌, arith, div-lt_iff_lt-mul, leb-true, le-leb, ltb-true, lt-ltb, le-ltb, eqb-true, eq-eqb}
use Rattle.std.proofs.Math.Logic.{by_cases}
use Rattle.std.proofs.Math.Decide.{dec_lt}
use Rattle.std.proofs.lemmas.Bool.{not-true}
use Rattle.std.proofs.Math.Dec.{eqb}
use Rattle.rules.specs.Counting.{sum, count, all}
use Rattle.rules.specs.Extents.{none, end, joinable}
use Rattle.rules.specs.Lent.{Lent, slot_of, fill_of, valid_of, label_of, block_of, offset_of}
use Rattle.rules.specs.Sound.{rule1, rule2, rule3, rule4, mapped_in, rule5, rule6, sound}
use Rattle.laws.specs.Bools.{and_split, and-join}
use Rattle.laws.specs.Sums.{sum_same, count_const, all-each, each_all}
use Rattle.laws.specs.Rows.{mod_shift, div_shift}
use Rattle.laws.specs.Ranked.{Ranked, ranked-rows, rows-ranked}
use Rattle.laws.specs.Shapes.{some-pages, pages_fit}
use Rattle.laws.specs.Sound.{Shaped, SoundState, pages_in}

-- ---- an extent that lies in its block: all of its pages are in that block

pub pages-block : (n b p c : ℕ) → p % n + c ≤ n → count c (λ k. eqb ((p + k) / n) b) ≡ cond (eqb (p / n) b) c 0
pages-block n b p c h =
    count_const c (λ k. eqb ((p + k) / n) b) (eqb (p / n) b) (λ k t. ap (λ (x : ℕ). eqb x b) (div_shift n p k (omega arith)))

module _ (s : Lent) (inside : (i : ℕ) → i < s.head.used → offset_of s (slot_of s i).physical + (slot_of s i).count ≤ s.head.pages) where
  pub mapped-pages : (b : ℕ) → mapped_in s b ≡ sum s.head.used (pages_in s.extent_words s.head.pages b)
  unfolding mapped_in pages_in
  mapped-pages b =
      sum_same s.head.used (λ i. count (slot_of s i).count (λ k. eqb (block_of s ((slot_of s i).physical + k)) b)) (pages_in s.extent_words s.head.pages b)
      (λ i t. pages-block s.head.pages b (slot_of s i).physical (slot_of s i).count (inside i t))

-- ---- rule 4, page by page

-- 01: page p lies below B x N and below its block's fill, and its spare entry is l
pub record Page (s : Lent) (p l : ℕ) : Type 0 where
  pub inside : p < s.head.blocks * s.head.pages
  pub below : offset_of s p < fill_of s (block_of s p)
  pub labelled : label_of s p ≡ l

pub rule4-each : (s : Lent) → rule4 s ≡ true → (i k : ℕ) → i < s.head.used → k < (slot_of s i).count → Page s ((slot_of s i).physical + k) ((slot_of s i).logical + k)
unfolding rule4
rule4-each s e i k h t =
    let p = (slot_of s i).physical + k in
    let a = and_split _ _ (all-each _ _ (all-each _ _ e i h) k t) in
    let b = and_split _ _ a.0 in
    record { inside = ltb-true _ _ b.0; below = ltb-true _ _ b.1; labelled = eqb-true _ _ a.1 }

pub each-rule4 : (s : Lent) → ((i k : ℕ) → i < s.head.used → k < (slot_of s i).count → Page s ((slot_of s i).physical + k) ((slot_of s i).logical + k)) → rule4 s ≡ true
unfolding rule4
each-rule4 s h =
    each_all _ _ (λ i t. each_all _ _ (λ k d. let p = h i k t d in
    and-join _ _ (and-join _ _ (lt-ltb _ _ p.inside) (lt-ltb _ _ p.below)) (eq-eqb _ _ p.labelled)))

-- ---- rules 1 and 2 but for `small`, and rule 3

-- rule 1 in its five parts
pub record Rule1 (s : Lent) : Type 0 where
  pub few : s.head.used ≤ s.head.slots
  pub some : (i : ℕ) → i < s.head.used → 1 ≤ (slot_of s i).count
  pub rising : (i j : ℕ) → j ≡ suc i → j < s.head.used → end (slot_of s i) ≤ (slot_of s j).logical
  pub high : (i : ℕ) → i < s.head.used → end (slot_of s i) ≤ s.head.logical
  pub zeros : (k : ℕ) → 3 * s.head.used ≤ k → k < length s.extent_words → get_or s.extent_words k 0 ≡ 0

pub rule1-true : (s : Lent) → rule1 s ≡ true → Rule1 s
unfolding rule1
rule1-true s e =
    let u = s.head.used in
    let e₄ = and_split _ _ e in
    let e₃ = and_split _ _ e₄.0 in
    let e₂ = and_split _ _ e₃.0 in
    let e₁ = and_split _ _ e₂.0 in
    record {
      few = leb-true _ _ e₁.0;
      some = λ i t. leb-true _ _ (all-each _ _ e₁.1 i t);
      rising = λ i j g t. rw g (leb-true (end (slot_of s i)) (slot_of s (suc i)).logical (all-each _ _ e₂.1 i (omega arith)));
      high = λ i t. leb-true _ _ (all-each _ _ e₃.1 i t);
      zeros = λ k a b.
          let at : 3 * u + (k - 3 * u) ≡ k = omega arith in
          sym (ap (λ (x : ℕ). get_or s.extent_words x 0) at)
          ∙ eqb-true (get_or s.extent_words (3 * u + (k - 3 * u)) 0) 0 (all-each _ _ e₄.1 (k - 3 * u) (omega arith));
    }

pub true-rule1 : (s : Lent) → Rule1 s → rule1 s ≡ true
unfolding rule1
true-rule1 s f =
    let u = s.head.used in
    and-join _ _ (and-join _ _ (and-join _ _ (and-join _ _ (le-leb _ _ f.few) (each_all _ _ (λ i t. le-leb _ _ (f.some i t))))
    (each_all _ _ (λ i t. le-leb _ _ (f.rising i (suc i) refl (omega arith)))))
    (each_all _ _ (λ i t. le-leb _ _ (f.high i t))))
    (each_all _ _ (λ k t. eq-eqb _ _ (f.zeros (3 * u + k) (omega arith) (omega arith))))

pub record Second (s : Lent) : Type 0 where
  pub inside : (i : ℕ) → i < s.head.used → offset_of s (slot_of s i).physical + (slot_of s i).count ≤ s.head.pages
  pub apart : (i j : ℕ) → j ≡ suc i → j < s.head.used → joinable s.head.pages (slot_of s i) (slot_of s j) ≡ false

pub rule2-true : (s : Lent) → rule2 s ≡ true → Second s
unfolding rule2
rule2-true s e =
    let u = s.head.used in
    let ends : ℕ → Bool = λ i. leb (offset_of s (slot_of s i).physical + (slot_of s i).count) s.head.pages in
    let far : ℕ → Bool = λ i. not (joinable s.head.pages (slot_of s i) (slot_of s (suc i))) in
    let t = and_split (all u ends) (all (u - 1) far) e in
    record {
      inside = λ i h. leb-true _ _ (all-each u ends t.0 i h);
      apart = λ i j g h. rw g (not-true (joinable s.head.pages (slot_of s i) (slot_of s (suc i))) (all-each (u - 1) far t.1 i (omega arith)));
    }

pub true-rule2 : (s : Lent) → Second s → rule2 s ≡ true
unfolding rule2
true-rule2 s f =
    and-join _ _ (each_all _ _ (λ i h. le-leb _ _ (f.inside i h))) (each_all _ _ (λ i h. ap not (f.apart i (suc i) refl (omega arith))))

pub record Third (s : Lent) : Type 0 where
  pub full : (b : ℕ) → b < s.head.blocks → fill_of s b ≤ s.head.pages
  pub labels : (b o : ℕ) → b < s.head.blocks → o < fill_of s b → label_of s (b * s.head.pages + o) < s.head.logical
  pub blank : (b o : ℕ) → b < s.head.blocks → fill_of s b ≤ o → o < s.head.pages → label_of s (b * s.head.pages + o) ≡ none

-- the entry of page o of block b
abbrev label_test : Lent → ℕ → ℕ → Bool
label_test s b o =
    let label = label_of s (b * s.head.pages + o) in
    cond (ltb o (fill_of s b)) (ltb label s.head.logical) (eqb label none)

rule3-each : (s : Lent) → rule3 s ≡ true → (b : ℕ) → b < s.head.blocks → (fill_of s b ≤ s.head.pages) × ((o : ℕ) → o < s.head.pages → label_test s b o ≡ true)
unfolding rule3
rule3-each s e b h =
    let t = and_split (leb (fill_of s b) s.head.pages) (all s.head.pages (label_test s b)) (all-each _ _ e b h) in
    (leb-true _ _ t.0, all-each s.head.pages (label_test s b) t.1)

pub rule3-true : (s : Lent) → rule3 s ≡ true → Third s
rule3-true s e = record {
  full = λ b h. (rule3-each s e b h).0;
  labels = λ b o h k.
      let r = rule3-each s e b h in
      ltb-true (label_of s (b * s.head.pages + o)) s.head.logical (rw (lt-ltb o (fill_of s b) k) at (r.1 o (omega arith)));
  blank = λ b o h f k.
      eqb-true (label_of s (b * s.head.pages + o)) none (rw (le-ltb o (fill_of s b) f) at ((rule3-each s e b h).1 o k));
}

pub true-rule3 : (s : Lent) → Third s → rule3 s ≡ true
unfolding rule3
true-rule3 s f =
    each_all _ _ (λ b h. and-join _ _ (le-leb _ _ (f.full b h)) (each_all _ _ (λ o k. by_cases (dec_lt o (fill_of s b))
    (λ t. rw (lt-ltb o (fill_of s b) t) (lt-ltb _ _ (f.labels b o h t)))
    (λ t. rw (le-ltb o (fill_of s b) (omega arith)) (eq-eqb _ _ (f.blank b o h (omega arith) k))))))

-- ---- rules 5 and 6

pub rule5-each : (s : Lent) → rule5 s ≡ true → (b : ℕ) → b < s.head.blocks → valid_of s b ≡ mapped_in s b
unfolding rule5
rule5-each s e b h = eqb-true _ _ (all-each _ _ e b h)

pub each-rule5 : (s : Lent) → ((b : ℕ) → b < s.head.blocks → valid_of s b ≡ mapped_in s b) → rule5 s ≡ true
unfolding rule5
each-rule5 s h = each_all _ _ (λ b t. eq-eqb _ _ (h b t))

pub rule6-true : (s : Lent) → rule6 s ≡ true → (s.head.reserve < s.head.blocks) × (fill_of s s.head.reserve ≡ 0)
unfolding rule6
rule6-true s e = let t = and_split _ _ e in (ltb-true _ _ t.0, eqb-true _ _ t.1)

pub true-rule6 : (s : Lent) → s.head.reserve < s.head.blocks → fill_of s s.head.reserve ≡ 0 → rule6 s ≡ true
unfolding rule6
true-rule6 s a b = and-join _ _ (lt-ltb _ _ a) (eq-eqb _ _ b)

-- ---- from the tests

module _ (s : Lent) (z : Shaped s) (e : sound s ≡ true) where
  rules : (rule1 s ≡ true) × (rule2 s ≡ true) × (rule3 s ≡ true) × (rule4 s ≡ true) × (rule5 s ≡ true) × (rule6 s ≡ true)
  unfolding sound
  rules =
      let e₅ = and_split _ _ e in
      let e₄ = and_split _ _ e₅.0 in
      let e₃ = and_split _ _ e₄.0 in
      let e₂ = and_split _ _ e₃.0 in
      let e₁ = and_split _ _ e₂.0 in
      (e₁.0, e₁.1, e₂.1, e₃.1, e₄.1, e₅.1)

  one : Rule1 s
  one = rule1-true s rules.0

  two : Second s
  two = rule2-true s rules.1

  three : Third s
  three = rule3-true s rules.2

  page : (i k : ℕ) → i < s.head.used → k < (slot_of s i).count → Page s ((slot_of s i).physical + k) ((slot_of s i).logical + k)
  page = rule4-each s rules.3

  -- an extent's first page and its last
  block : (i : ℕ) → i < s.head.used → (slot_of s i).physical / s.head.pages < s.head.blocks
  block i h =
      let p = (slot_of s i).physical in
      let at : p + 0 ≡ p = omega arith in
      (div-lt_iff_lt-mul {k = s.head.pages} {x = p} {y = s.head.blocks} (some-pages z.sizes)).1
      (omega (arith, (page i 0 h (omega (arith, one.some i h))).inside))

  last : (i : ℕ) → i < s.head.used → Page s ((slot_of s i).physical + ((slot_of s i).count - 1)) ((slot_of s i).logical + ((slot_of s i).count - 1))
  last i h = page i ((slot_of s i).count - 1) h (omega (arith, one.some i h))

  below : (i : ℕ) → i < s.head.used → (slot_of s i).physical % s.head.pages + (slot_of s i).count ≤ fill_of s ((slot_of s i).physical / s.head.pages)
  below i h =
      let p = (slot_of s i).physical in
      let c = (slot_of s i).count in
      let n = s.head.pages in
      let k : p % n + (c - 1) < n = omega (arith, one.some i h, two.inside i h) in
      omega (arith, one.some i h, (last i h).below, mod_shift n p (c - 1) k, ap (fill_of s) (div_shift n p (c - 1) k))

  ranked : Ranked s.head.pages s.head.logical s.extent_words s.head.used
  ranked = record {
    some = one.some;
    rising = one.rising;
    high = one.high;
    inside = two.inside;
    small = λ i h. omega (arith, one.some i h, (last i h).inside, pages_fit z.sizes);
    apart = two.apart;
  }

  pub sound-state : SoundState s
  sound-state =
      let six = rule6-true s rules.5 in
      record {
        few = one.few;
        rows = ranked-rows s.head.pages s.head.logical s.extent_words s.head.used ranked;
        zeros = one.zeros;
        full = three.full;
        labels = three.labels;
        blank = three.blank;
        inside = block;
        below = below;
        labelled = λ i k h t. (page i k h t).labelled;
        counts = λ b h. rule5-each s rules.4 b h ∙ mapped-pages s two.inside b;
        kept = six.0;
        empty = six.1;
      }

-- ---- to the tests

-- rules 1 to 6, where rules 1 and 2 hold slot by slot
module _ (s : Lent) (few : s.head.used ≤ s.head.slots) (r : Ranked s.head.pages s.head.logical s.extent_words s.head.used)
    (zeros : (k : ℕ) → 3 * s.head.used ≤ k → k < length s.extent_words → get_or s.extent_words k 0 ≡ 0) (third : Third s) where
  pub ranked-sound : ((i k : ℕ) → i < s.head.used → k < (slot_of s i).count → Page s ((slot_of s i).physical + k) ((slot_of s i).logical + k))
      → ((b : ℕ) → b < s.head.blocks → valid_of s b ≡ sum s.head.used (pages_in s.extent_words s.head.pages b))
      → s.head.reserve < s.head.blocks → fill_of s s.head.reserve ≡ 0 → sound s ≡ true
  unfolding sound
  ranked-sound pages counts kept empty =
      simp (
        true-rule1 s (record { few = few; some = r.some; rising = r.rising; high = r.high; zeros = zeros }),
        true-rule2 s (record { inside = r.inside; apart = r.apart }),
        true-rule3 s third,
        each-rule4 s pages,
        each-rule5 s (λ b h. counts b h ∙ sym (mapped-pages s r.inside b)),
        true-rule6 s kept empty,
      )

module _ (s : Lent) (z : Shaped s) (f : SoundState s) where
  pub state-ranked : Ranked s.head.pages s.head.logical s.extent_words s.head.used
  state-ranked = rows-ranked s.head.pages s.head.logical s.extent_words s.head.used f.rows

  pub state-page : (i k : ℕ) → i < s.head.used → k < (slot_of s i).count → Page s ((slot_of s i).physical + k) ((slot_of s i).logical + k)
  state-page i k h t =
      let p = (slot_of s i).physical in
      let n = s.head.pages in
      let g : p % n + k < n = omega (arith, state-ranked.inside i h) in
      let e = div_shift n p k g in
      record {
        inside = (div-lt_iff_lt-mul {k = n} {x = p + k} {y = s.head.blocks} (some-pages z.sizes)).0 (omega (arith, f.inside i h));
        below = omega (arith, f.below i h, mod_shift n p k g, ap (fill_of s) e);
        labelled = f.labelled i k h t;
      }

  pub state-sound : sound s ≡ true
  state-sound =
      ranked-sound s f.few state-ranked f.zeros (record { full = f.full; labels = f.labels; blank = f.blank })
      state-page f.counts f.kept f.empty
