-- Labels copied one by one into the old reserve, and the victim's erased.
use Rattle.std.specs.Prelude.{◌≡◌, ℕ, suc, ◌+◌, ◌-◌, ◌*◌, ◌<◌, ◌≤◌, List, [], ◌∷◌, ◌++◌, length, get_or, take, set, replicate, slice_index, slice_index_or, slice_set, refl}
use Rattle.std.proofs.Common.{sym, ap, ◌∙◌, arith, add-one, take-suc, get_or-take, length-take-le}
use Rattle.std.proofs.Math.Logic.{by_cases}
use Rattle.std.proofs.Math.Decide.{dec_lt}
use borrow.Rule.Slice.PartMut.{mid_of, put_mid}
use Rattle.std.proofs.lemmas.List.{get_or_default}
use Rattle.std.proofs.lemmas.List.Edits.{sets}
use Rattle.rules.specs.Extents.{none}
use Rattle.rules.specs.Reclaim.{copied}
use Rattle.laws.specs.Cells.{block_le, swept, copies_into, copies-copied, length-copied}
use Rattle.choosing.specs.Part.{part_filled}

-- the first k words of ps are pages of block v, and all their labels have room in block r
pub record Copied (n r v : ℕ) (ps : List ℕ) (k size : ℕ) : Type 0 where
  pub listed : k ≤ length ps
  pub few : k ≤ n
  pub other : v ≡ r → ⊥
  pub to : r * n + n ≤ size
  pub from : v * n + n ≤ size
  pub low : (i : ℕ) → i < k → v * n ≤ slice_index ps i
  pub high : (i : ℕ) → i < k → slice_index ps i < v * n + n

copies-more : (ps : List ℕ) (p a : ℕ) (xs : List ℕ) → copies_into none a (ps ++ p ∷ []) xs ≡ slice_set (copies_into none a ps xs) (a + length ps) (slice_index_or (copies_into none a ps xs) p none)
unfolding copies_into
copies-more [] p a xs = let e : a + 0 ≡ a = omega arith in rw e
copies-more (q ∷ ps) p a xs =
    let e : suc a + length ps ≡ a + suc (length ps) = omega arith in
    let ys = copies_into none (suc a) ps (slice_set xs a (slice_index_or xs q none)) in
    copies-more ps p (suc a) (slice_set xs a (slice_index_or xs q none)) ∙ ap (λ (i : ℕ). set ys i (slice_index_or ys p none)) e

pub labels-start : (a : ℕ) (ps xs : List ℕ) → xs ≡ copies_into none a (take 0 ps) xs
unfolding copies_into
labels-start a ps xs = refl

pub labels_next : (a : ℕ) (ps xs xs' : List ℕ) (i : ℕ) → i < length ps → slice_index ps i < length xs' → xs' ≡ copies_into none a (take i ps) xs
    → slice_set xs' (a + i) (slice_index xs' (slice_index ps i)) ≡ copies_into none a (take (i + 1) ps) xs
labels_next a ps xs xs' i h l e =
    let p = get_or ps i 0 in
    let size : a + length (take i ps) ≡ a + i = ap (λ (k : ℕ). a + k) (length-take-le i ps (omega arith)) in
    ap (set xs' (a + i)) (get_or_default xs' p 0 none l)
    ∙ ap (λ (ys : List ℕ). set ys (a + i) (slice_index_or ys p none)) e
    ∙ sym (ap (λ (k : ℕ). copies_into none a (take k ps) xs) (add-one i)
    ∙ ap (λ (qs : List ℕ). copies_into none a qs xs) (take-suc ps i 0 h)
    ∙ copies-more (take i ps) p a xs
    ∙ ap (λ (k : ℕ). set (copies_into none a (take i ps) xs) k (slice_index_or (copies_into none a (take i ps) xs) p none)) size)

-- no label is read after it was stored: the sources lie in another block
labels-copied : (n r v : ℕ) (ps : List ℕ) (k : ℕ) (xs : List ℕ) → Copied n r v ps k (length xs) → copies_into none (r * n) (take k ps) xs ≡ copied none (r * n) (take k ps) xs
labels-copied n r v ps k xs c =
    let size : length (take k ps) ≡ k = length-take-le k ps c.listed in
    copies-copied none (take k ps) (r * n) xs
    (λ i h p q. let at = get_or-take k ps i 0 (omega arith) in
    let low = c.low i (omega arith) in
    let high = c.high i (omega arith) in
    by_cases (dec_lt v r)
    (λ t. omega (arith, block_le n v r t))
    (λ t. omega (arith, c.few, block_le n r v (by_other t))))
  where
    by_other : (v < r → ⊥) → r < v
    by_other t = omega (arith, c.other)

pub labels-moved : (n r v : ℕ) (ps : List ℕ) (k : ℕ) (xs xs' ys : List ℕ) → Copied n r v ps k (length xs)
    → xs' ≡ copies_into none (r * n) (take k ps) xs
    → ys ≡ replicate (length (mid_of (v * n) (v * n + n - v * n) xs')) none
    → put_mid (v * n) (v * n + n - v * n) xs' ys ≡ swept none n r v (take k ps) xs
unfolding swept
labels-moved n r v ps k xs xs' ys c e f =
    let g : xs' ≡ copied none (r * n) (take k ps) xs = e ∙ labels-copied n r v ps k xs c in
    let size : length xs' ≡ length xs = ap length g ∙ length-copied none (r * n) (take k ps) xs in
    part_filled (v * n) n xs' ys none (omega (arith, c.from)) f
    ∙ ap (λ (zs : List ℕ). sets zs (v * n) (replicate n none)) g
