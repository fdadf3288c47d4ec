-- What stands on the flash when the host does what each call asks for: it programs erased pages only, and every line shows what it should.
use Rattle.std.specs.Prelude.{ℕ, zero, suc, ◌+◌, ◌-◌, ◌*◌, ◌≤◌, ◌<◌, ◌≡◌, refl, length, get_or, replicate}
use Rattle.std.proofs.Math.Path.{sym, ap}
use Rattle.std.proofs.Common.{◌∙◌, arith, eq-eqb, ne_eqb, length-set}
use mathlib.Core.List.{List, [], ◌∷◌}
use Rattle.std.proofs.Math.Logic.{by_cases}
use Rattle.std.proofs.Math.Decide.{ℕ_discrete}
use Rattle.std.proofs.Math.Arith.{digits_lt}
use Rattle.std.proofs.Math.ListN.{set}
use Rattle.std.proofs.Math.Seq.{sets}
use Rattle.rules.specs.Extents.{none}
use Rattle.rules.specs.Device.{Device, blocks, lines, at, fill, valid}
use Rattle.rules.specs.Placement.{put_at, puts_at, places_at}
use Rattle.rules.specs.Request.{with_table, trimmed}
use Rattle.rules.specs.Reclaim.{sources, moved, reclaimed_at}
use Rattle.demands.specs.Flash.{Cell, erased, value, hole, cell, see, contents}
use Rattle.laws.specs.Cells.{block_le, far, copies_into, copies-copied, Blanks, blanks}
use Rattle.laws.specs.Device.{SoundDevice, Blank, page_lt}
use Rattle.laws.specs.Placed.{Open, Opens, put-pages, put-blocks, put-at, put_at-other, stored_in, stored-kept, stored-blank, put_one}
use Rattle.laws.specs.Lines.{trimmed_in, trimmed-other}
use Rattle.laws.specs.Reclaimed.{nth, length-sources, few-sources, source, source-page, re_pages, re_blocks, re_hole, re_some, length_moved, carried-kept, carried-blank}

pub see-hole : (f : List Cell) (p : ℕ) → p ≡ none → see f p ≡ hole
unfolding see
see-hole f p e = rw (eq-eqb p none e)

pub see-cell : (f : List Cell) (p : ℕ) → (p ≡ none → ⊥) → see f p ≡ cell (get_or f p erased)
unfolding see
see-cell f p e = rw (ne_eqb p none e)

-- the flash is erased from each fill on
pub record Clean (d : Device) (f : List Cell) : Type 0 where
  pub whole : length f ≡ blocks d * d.pages
  pub blank : Blank erased f d

-- ---- one page programmed

module _ (d : Device) (s : SoundDevice d) (f : List Cell) (c : Clean d f) (b : ℕ) (v : Open d b) (l : ℕ) (a : l < lines d) (x : ℕ) where
  pub put-ready : get_or f (b * d.pages + fill d b) erased ≡ erased
  put-ready = c.blank b (fill d b) v.inside (omega arith) v.below

  pub put-inside : b * d.pages + fill d b < length f
  put-inside = omega (arith, c.whole, digits_lt {q = b} {m = blocks d} {r = fill d b} {c = d.pages} v.inside v.below)

  pub put-clean : Clean (put_at b l d) (set f (b * d.pages + fill d b) (value x))
  put-clean = record {
    whole = length-set f (b * d.pages + fill d b) (value x) ∙ c.whole ∙ sym (rw (put-blocks d s b v l a, put-pages d s b v l a));
    blank = stored-blank d s b v l a erased (value x) f c.blank;
  }

  pub put-shows : contents (put_at b l d) (set f (b * d.pages + fill d b) (value x)) l ≡ cell (value x)
  unfolding contents
  put-shows =
      let p = b * d.pages + fill d b in
      ap (see (set f p (value x))) (put-at d s b v l a)
      ∙ see-cell (set f p (value x)) p (λ g. omega (arith, page_lt d s b (fill d b) v.inside v.below))
      ∙ ap cell (stored_in d s b v l a erased (value x) f c.whole)

  pub put_keeps : (k : ℕ) → (k ≡ l → ⊥) → contents (put_at b l d) (set f (b * d.pages + fill d b) (value x)) k ≡ contents d f k
  unfolding contents
  put_keeps k e =
      let f' = set f (b * d.pages + fill d b) (value x) in
      ap (see f') (put_at-other d s b v l a k e)
      ∙ by_cases (ℕ_discrete (at d k) none)
      (λ g. see-hole f' (at d k) g ∙ sym (see-hole f (at d k) g))
      (λ m. see-cell f' (at d k) m ∙ ap cell (stored-kept d s b v l a erased (value x) f k m) ∙ sym (see-cell f (at d k) m))

-- ---- a write

-- the host programs the listed pages, in order
unfoldable pub program : List ℕ → List ℕ → List Cell → List Cell
program [] xs f = f
program (p ∷ ps) [] f = f
program (p ∷ ps) (x ∷ xs) f = program ps xs (set f p (value x))

pub record Written (d : Device) (f : List Cell) (l : ℕ) (xs : List ℕ) (d' : Device) (f' : List Cell) : Type 0 where
  pub clean : Clean d' f'
  pub shows : (i j : ℕ) → i < length xs → j ≡ l + i → contents d' f' j ≡ cell (value (get_or xs i 0))
  pub keeps : (k : ℕ) → (l ≤ k → k < l + length xs → ⊥) → contents d' f' k ≡ contents d f k

pub write-shows : (l : ℕ) (bs xs : List ℕ) (d : Device) (f : List Cell) → SoundDevice d → Clean d f → Opens l bs d → l + length bs ≤ lines d → length bs ≡ length xs
    → Written d f l xs (puts_at l bs d) (program (places_at l bs d) xs f)
unfolding puts_at places_at program
write-shows l [] [] d f s c v h g = record { clean = c; shows = λ i j t e. absurd (omega arith); keeps = λ k t. refl }
write-shows l [] (x ∷ xs) d f s c v h g = absurd (omega arith)
write-shows l (b ∷ bs) [] d f s c v h g = absurd (omega arith)
write-shows l (b ∷ bs) (x ∷ xs) d f s c v h g =
    let a : l < lines d = omega arith in
    let o = put_one b l d s v.0 a in
    let w = write-shows (suc l) bs xs (put_at b l d) (set f (b * d.pages + fill d b) (value x)) o.sound (put-clean d s f c b v.0 l a x) v.1 (omega (arith, o.lines)) (omega arith) in
    record {
      clean = w.clean;
      shows = λ i. elim i as (λ m. (j : ℕ) → m < length (x ∷ xs) → j ≡ l + m
          → contents (puts_at l (b ∷ bs) d) (program (places_at l (b ∷ bs) d) (x ∷ xs) f) j ≡ cell (value (get_or (x ∷ xs) m 0))) [
            | zero ↦ λ j t e. let q : j ≡ l = omega arith in w.keeps j (λ p q. omega arith) ∙ rw q (put-shows d s f c b v.0 l a x)
            | suc m ↦ λ j t e. w.shows m j (omega arith) (omega arith)
          ];
      keeps = λ k t. w.keeps k (λ p q. t (omega arith) (omega arith)) ∙ put_keeps d s f c b v.0 l a x k (λ e. t (omega arith) (omega arith));
    }

-- ---- a trim

pub trim-clean : (k l n : ℕ) (d : Device) (f : List Cell) → Clean d f → Clean (trimmed k l n d) f
unfolding trimmed with_table
trim-clean k l n d f c = record { whole = c.whole; blank = c.blank }

pub trim-shows : (k l n : ℕ) (d : Device) (f : List Cell) → l + n ≤ lines d → (j : ℕ) → l ≤ j → j < l + n → contents (trimmed k l n d) f j ≡ hole
unfolding contents
trim-shows k l n d f h j p q = see-hole f (at (trimmed k l n d) j) (trimmed_in k l n d h j p q)

pub trim-keeps : (k l n : ℕ) (d : Device) (f : List Cell) (j : ℕ) → (l ≤ j → j < l + n → ⊥) → contents (trimmed k l n d) f j ≡ contents d f j
unfolding contents
trim-keeps k l n d f j h = ap (see f) (trimmed-other k l n d j h)

-- ---- a reclaim

-- the host copies the listed pages into the reserve, from its first page on, and then erases block v
unfoldable pub vacate : ℕ → Device → List Cell → List Cell
vacate v d f = sets (copies_into erased (d.reserve * d.pages) (sources v d) f) (v * d.pages) (replicate d.pages erased)

module _ (d : Device) (s : SoundDevice d) (f : List Cell) (c : Clean d f) (v : ℕ) (a : v < blocks d) (e : v ≡ d.reserve → ⊥) where
  vacate-moved : vacate v d f ≡ moved erased v d f
  unfolding vacate moved
  vacate-moved =
      ap (λ (g : List Cell). sets g (v * d.pages) (replicate d.pages erased)) (copies-copied erased (sources v d) (d.reserve * d.pages) f
      (λ i t p q. let i' : i < valid d v = omega (arith, length-sources d s v a e) in
      let k = source d s v a e i i' in
      let g = source-page d s v a e i 0 i' in
      far d.pages v d.reserve (nth v d i) e k.below (omega arith) (omega (arith, few-sources d s v a e))))

  pub vacate-ready : Blanks erased (d.reserve * d.pages) (sources v d) f
  vacate-ready =
      blanks erased (sources v d) (d.reserve * d.pages) f (omega (arith, few-sources d s v a e, block_le d.pages d.reserve (blocks d) s.kept, c.whole))
      (λ j p q. let o = j - d.reserve * d.pages in
      let g : j ≡ d.reserve * d.pages + o = omega arith in
      rw g (c.blank d.reserve o s.kept (omega (arith, s.empty)) (omega (arith, few-sources d s v a e))))

  pub vacate-clean : Clean (reclaimed_at v d) (vacate v d f)
  vacate-clean = rw vacate-moved (record {
    whole = rw (re_blocks d s v a e, re_pages d s v a e) (length_moved d s v a e erased f c.whole ∙ c.whole);
    blank = carried-blank d s v a e erased f c.whole c.blank;
  })

  -- every line keeps its contents
  pub vacate-keeps : (l : ℕ) → contents (reclaimed_at v d) (vacate v d f) l ≡ contents d f l
  unfolding contents
  vacate-keeps l =
      let p = at (reclaimed_at v d) l in
      rw vacate-moved (by_cases (ℕ_discrete (at d l) none)
      (λ g. see-hole (moved erased v d f) p (re_hole d s v a e l g) ∙ sym (see-hole f (at d l) g))
      (λ m. see-cell (moved erased v d f) p (re_some d s v a e l m)
      ∙ ap cell (carried-kept d s v a e erased f c.whole l m)
      ∙ sym (see-cell f (at d l) m)))
