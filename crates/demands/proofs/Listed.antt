-- What the host does by an answer, page by page: the pages of a write's pieces are its places in order, and a reclaim's copies fill the
-- old reserve from its first page on. Each step is allowed when it comes.
use Prim.Native.Nat.{ℕ, suc, ◌+◌, ◌-◌, ◌*◌, ◌/◌, ◌%◌, ◌≤◌, ◌<◌}
use Rattle.std.specs.Prelude.{◌≡◌, refl}
use Rattle.std.proofs.Math.Path.{sym, ap}
use Rattle.std.proofs.Common.{ap₂, ◌∙◌, get_or-set_same}
use mathlib.Core.List.{List, [], ◌∷◌, ◌++◌, append_assoc}
use native.Mathlib.Omega.{arith}
use Rattle.std.proofs.Math.Arith.{digits_div, digits_mod}
use Rattle.std.proofs.Math.ListN.{length, get_or, set, length-set}
use Rattle.std.proofs.Math.Seq.{set-set}
use Rattle.std.proofs.lemmas.List.{set-get_or}
use Rattle.rules.specs.Counting.{tabulate}
use Rattle.rules.specs.Extents.{none, extent, join, joinable, runs}
use Rattle.rules.specs.Device.{Device, lines, fill}
use Rattle.rules.specs.Placement.{put_at, puts_at, places_at}
use Rattle.rules.specs.declared.Extent.{Extent}
use Rattle.laws.specs.Bools.{cases}
use Rattle.laws.specs.Cells.{tabulate-same, tabulate_append, Blanks, copies_into}
use Rattle.laws.specs.Runs.{joinable-true, join-joined, join_apart, runs-page}
use Rattle.laws.specs.Device.{SoundDevice}
use Rattle.laws.specs.Placed.{Opens, put_one}
use Rattle.demands.specs.Flash.{Cell, erased, value}
use Rattle.demands.proofs.Shows.{Clean, put-ready, put-inside, put-clean, program}
use Rattle.demands.specs.Host.{Op, programs, copies, does, doing, marks, marking, AllAllowed}

-- ---- one thing after another

pub doing_append : (n : ℕ) (xs ys : List Op) (f : List Cell) → doing n (xs ++ ys) f ≡ doing n ys (doing n xs f)
unfolding doing
doing_append n [] ys f = refl
doing_append n (x ∷ xs) ys f = doing_append n xs ys (does n x f)

pub marking_append : (n : ℕ) (xs ys : List Op) (m : List ℕ) → marking n (xs ++ ys) m ≡ marking n ys (marking n xs m)
unfolding marking
marking_append n [] ys m = refl
marking_append n (x ∷ xs) ys m = marking_append n xs ys (marks n x m)

pub allowed_append : (n : ℕ) (xs ys : List Op) (f : List Cell) (m : List ℕ) → AllAllowed n xs f m → AllAllowed n ys (doing n xs f) (marking n xs m) → AllAllowed n (xs ++ ys) f m
unfolding doing marking
allowed_append n [] ys f m a b = b
allowed_append n (x ∷ xs) ys f m a b = (a.0, allowed_append n xs ys (does n x f) (marks n x m) a.1 b)

-- ---- a write

-- the pages programmed in order, with the contents in order
unfoldable pub writes : List ℕ → List ℕ → List Op
writes [] xs = []
writes (p ∷ ps) [] = []
writes (p ∷ ps) (x ∷ xs) = Op.program p x ∷ writes ps xs

-- one extent for two that are joinable: the same pages in the same order
programs-join : (l : ℕ) (xs : List ℕ) (n : ℕ) (e : Extent) (es : List Extent) → programs l xs (join n e es) ≡ programs l xs (e ∷ es)
unfolding join programs
programs-join l xs n e [] = refl
programs-join l xs n e (b ∷ bs) =
    cases (joinable n e b)
    (λ t. let j = joinable-true n e b t in
    let f : ℕ → Op = λ i. Op.program (e.physical + i) (get_or xs (e.logical + i - l) 0) in
    let g : ℕ → Op = λ i. Op.program (b.physical + i) (get_or xs (b.logical + i - l) 0) in
    ap (programs l xs) (join-joined n e b bs t)
    ∙ ap (λ (os : List Op). os ++ programs l xs bs) (tabulate_append e.count b.count (e.count + b.count) f refl
    ∙ ap (λ (os : List Op). tabulate e.count f ++ os) (tabulate-same b.count (λ i. f (e.count + i)) g
    (λ i s. let p : e.physical + (e.count + i) ≡ b.physical + i = omega (arith, j.physical) in
    let q : e.logical + (e.count + i) - l ≡ b.logical + i - l = omega (arith, j.logical) in
    ap₂ (λ (x y : ℕ). Op.program x (get_or xs y 0)) p q)))
    ∙ append_assoc (tabulate e.count f) (tabulate b.count g) (programs l xs bs))
    (λ t. ap (programs l xs) (join_apart n e b bs t))

-- the pieces of a table without holes, page by page; its first line is line l + i
pub programs-runs : (n l i a : ℕ) (xs ps : List ℕ) → a ≡ l + i → ((j : ℕ) → j < length ps → get_or ps j none ≡ none → ⊥)
    → programs l xs (runs n a ps) ≡ writes ps (tabulate (length ps) (λ j. get_or xs (i + j) 0))
unfolding runs programs writes tabulate
programs-runs n l i a xs [] e m = refl
programs-runs n l i a xs (p ∷ ps) e m =
    let here : p + 0 ≡ p = omega arith in
    let first : a + 0 - l ≡ i + 0 = omega arith in
    ap (programs l xs) (runs-page n a p ps (m 0 (omega arith)))
    ∙ programs-join l xs n (extent a p 1) (runs n (suc a) ps)
    ∙ ap₂ (λ (x y : ℕ). Op.program x (get_or xs y 0) ∷ programs l xs (runs n (suc a) ps)) here first
    ∙ ap (λ (os : List Op). Op.program p (get_or xs (i + 0) 0) ∷ os) (programs-runs n l (suc i) (suc a) xs ps (omega arith) (λ j s. m (suc j) (omega arith))
    ∙ ap (writes ps) (tabulate-same (length ps) (λ j. get_or xs (suc i + j) 0) (λ j. get_or xs (i + suc j) 0)
    (λ j s. let g : suc i + j ≡ i + suc j = omega arith in ap (λ (x : ℕ). get_or xs x 0) g)))

pub writes-does : (n : ℕ) (ps xs : List ℕ) (f : List Cell) → doing n (writes ps xs) f ≡ program ps xs f
unfolding doing does writes program
writes-does n [] xs f = refl
writes-does n (p ∷ ps) [] f = refl
writes-does n (p ∷ ps) (x ∷ xs) f = writes-does n ps xs (set f p (value x))

pub writes-marks : (l : ℕ) (bs xs : List ℕ) (d : Device) → Opens l bs d → length bs ≡ length xs → marking d.pages (writes (places_at l bs d) xs) d.fills ≡ (puts_at l bs d).fills
unfolding marking marks writes places_at puts_at put_at
writes-marks l [] xs d v e = refl
writes-marks l (b ∷ bs) [] d v e = absurd (omega arith)
writes-marks l (b ∷ bs) (x ∷ xs) d v e =
    ap (λ (c : ℕ). marking d.pages (writes (places_at (suc l) bs (put_at b l d)) xs) (set d.fills c (suc (fill d c)))) (digits_div b v.0.below)
    ∙ writes-marks (suc l) bs xs (put_at b l d) v.1 (omega arith)

pub writes-allowed : (l : ℕ) (bs xs : List ℕ) (d : Device) (f : List Cell) → SoundDevice d → Clean d f → Opens l bs d → l + length bs ≤ lines d
    → AllAllowed d.pages (writes (places_at l bs d) xs) f d.fills
unfolding does marks writes places_at put_at
writes-allowed l [] xs d f s c v h = tt
writes-allowed l (b ∷ bs) [] d f s c v h = tt
writes-allowed l (b ∷ bs) (x ∷ xs) d f s c v h =
    let a : l < lines d = omega arith in
    let o = put_one b l d s v.0 a in
    let block = digits_div b v.0.below in (
      record {
        there = put-inside d s f c b v.0 l a x;
        blank = put-ready d s f c b v.0 l a x;
        block = rw block v.0.inside;
        next = rw block (digits_mod b v.0.below);
      },
      rw block (writes-allowed (suc l) bs xs (put_at b l d) (set f (b * d.pages + fill d b) (value x)) o.sound (put-clean d s f c b v.0 l a x) v.1 (omega (arith, o.lines))),
    )

-- ---- a reclaim

pub copies-does : (n to : ℕ) (ps : List ℕ) (f : List Cell) → doing n (copies to ps) f ≡ copies_into erased to ps f
unfolding doing does copies copies_into
copies-does n to [] f = refl
copies-does n to (p ∷ ps) f = copies-does n (suc to) ps (set f to (get_or f p erased))

-- block r, of which i pages are programmed, takes the copies from offset i on
module _ (n r : ℕ) where
  into : (i to p : ℕ) (ps : List ℕ) → to ≡ r * n + i → i + length (p ∷ ps) ≤ n → to / n ≡ r
  into i to p ps e f = ap (λ (x : ℕ). x / n) e ∙ digits_div r (omega arith)

  pub copies-marks : (i to : ℕ) (ps m : List ℕ) → to ≡ r * n + i → r < length m → get_or m r 0 ≡ i → i + length ps ≤ n → marking n (copies to ps) m ≡ set m r (i + length ps)
  unfolding marking marks copies
  copies-marks i to [] m e h g f =
      let q : get_or m r 0 ≡ i + 0 = omega arith in
      sym (set-get_or m r 0) ∙ ap (set m r) q
  copies-marks i to (p ∷ ps) m e h g f =
      let m' = set m r (suc i) in
      let q : suc i + length ps ≡ i + suc (length ps) = omega arith in
      ap (λ (c : ℕ). marking n (copies (suc to) ps) (set m c (suc (get_or m c 0)))) (into i to p ps e f)
      ∙ ap (λ (x : ℕ). marking n (copies (suc to) ps) (set m r (suc x))) g
      ∙ copies-marks (suc i) (suc to) ps m' (omega arith) (omega (arith, length-set m r (suc i))) (get_or-set_same m r (suc i) 0 h) (omega arith)
      ∙ set-set m r (suc i) (suc i + length ps)
      ∙ ap (set m r) q

  pub copies-allowed : (i to : ℕ) (ps m : List ℕ) (f : List Cell) → to ≡ r * n + i → r < length m → get_or m r 0 ≡ i → i + length ps ≤ n → Blanks erased to ps f → AllAllowed n (copies to ps) f m
  unfolding does marks copies
  copies-allowed i to [] m f e h g k b = tt
  copies-allowed i to (p ∷ ps) m f e h g k b =
      let block = into i to p ps e k in (
        record {
          there = b.0;
          blank = b.1;
          block = rw block h;
          next = rw (block, g) (ap (λ (x : ℕ). x % n) e ∙ digits_mod r (omega arith));
        },
        rw (block, g) (copies-allowed (suc i) (suc to) ps (set m r (suc i)) (set f to (get_or f p erased))
            (omega arith) (omega (arith, length-set m r (suc i))) (get_or-set_same m r (suc i) 0 h) (omega arith) b.2),
      )
