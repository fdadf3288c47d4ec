-- A page is live when a line names it. In a sound device that line is the page's label, and only programmed pages are live.
use Rattle.std.specs.Prelude.{ℕ, zero, suc, ◌+◌, ◌*◌, ◌≤◌, ◌<◌, ◌≡◌, Bool, true, false, List, [], ◌∷◌, eqb, length, get_or}
use Rattle.std.proofs.Common.{sym, ◌∙◌, arith}
use Rattle.std.proofs.Math.Path.{ap}
use Rattle.std.proofs.lemmas.Bool.{false≢true}
use borrow.Author.Tests.{eq-eqb, eqb-true}
use Rattle.rules.specs.Counting.{among, count}
use Rattle.rules.specs.Extents.{none}
use Rattle.rules.specs.Device.{Device, blocks, at, fill, label, named}
use Rattle.laws.specs.Bools.{cases, never, same_test}
use Rattle.laws.specs.Picks.{count-short}
use Rattle.laws.specs.Device.{SoundDevice, same_block, same-offset, page_lt, offset_lt}

-- ---- a number in a list

pub record Stands (x : ℕ) (xs : List ℕ) (y : ℕ) : Type 0 where
  pub line : ℕ
  pub inside : line < length xs
  pub is : get_or xs line y ≡ x

pub stands : (x : ℕ) (xs : List ℕ) (y : ℕ) → among x xs ≡ true → Stands x xs y
unfolding among
stands x [] y e = absurd (false≢true e)
stands x (z ∷ zs) y e =
    cases (eqb x z)
    (λ t. record { line = 0; inside = omega arith; is = sym (eqb-true x z t) })
    (λ t. let e' : among x zs ≡ true = rw t at e in
    let r = stands x zs y e' in
    record { line = suc r.line; inside = omega (arith, r.inside); is = r.is })

-- y is what stands nowhere
pub among-at : (x : ℕ) (xs : List ℕ) (y l : ℕ) → get_or xs l y ≡ x → (x ≡ y → ⊥) → among x xs ≡ true
unfolding among
among-at x [] y l e m = absurd (m (sym e))
among-at x (z ∷ zs) y zero e m = rw (eq-eqb x z (sym e))
among-at x (z ∷ zs) y (suc l) e m = cases (eqb x z) (λ t. rw t) (λ t. rw t (among-at x zs y l e m))

-- ---- live pages

-- the map of the label of page o of block b names that very page
unfoldable pub live_at : Device → ℕ → ℕ → Bool
live_at d b o = let p = b * d.pages + o in eqb (at d (label d p)) p

module _ (d : Device) (s : SoundDevice d) (b : ℕ) (h : b < blocks d) where
  pub named_by : (o l : ℕ) → o < d.pages → at d l ≡ b * d.pages + o → named d b o ≡ true
  unfolding named
  named_by o l k e = among-at (b * d.pages + o) d.table none l e (λ g. omega (arith, page_lt d s b o h k))

  -- the line that names a page is its label
  pub named-line : (o l : ℕ) → o < d.pages → at d l ≡ b * d.pages + o → label d (b * d.pages + o) ≡ l
  named-line o l k e =
      let m : at d l ≡ none → ⊥ = λ g. omega (arith, page_lt d s b o h k) in
      sym (ap (label d) e) ∙ (s.home l m).labelled

  pub named-label : (o : ℕ) → o < d.pages → named d b o ≡ true → at d (label d (b * d.pages + o)) ≡ b * d.pages + o
  unfolding named
  named-label o k e =
      let r = stands (b * d.pages + o) d.table none e in
      ap (at d) (named-line o r.line k r.is) ∙ r.is

  pub named_live : (o : ℕ) → o < d.pages → named d b o ≡ live_at d b o
  unfolding live_at
  named_live o k =
      let p = b * d.pages + o in
      same_test (named d b o) (live_at d b o)
      (λ e. eq-eqb (at d (label d p)) p (named-label o k e))
      (λ e. named_by o (label d p) k (eqb-true (at d (label d p)) p e))

  -- and it is programmed
  pub named-below : (o : ℕ) → o < d.pages → named d b o ≡ true → o < fill d b
  named-below o k e =
      let l = label d (b * d.pages + o) in
      let g = named-label o k e in
      let m : at d l ≡ none → ⊥ = λ z. omega (arith, page_lt d s b o h k) in
      let r = s.home l m in
      let z = offset_lt d s l m in
      omega (
        arith,
        r.below,
        ap (fill d) (same_block d.pages r.block b r.offset o z k (sym r.is ∙ g)),
        same-offset d.pages r.block b r.offset o z k (sym r.is ∙ g),
      )

  pub named_blank : (o : ℕ) → fill d b ≤ o → o < d.pages → named d b o ≡ false
  named_blank o f k = never (named d b o) (λ e. omega (arith, named-below o k e))

  pub count-named : count d.pages (named d b) ≡ count (fill d b) (named d b)
  count-named = count-short (fill d b) d.pages (named d b) (s.full b h) named_blank
