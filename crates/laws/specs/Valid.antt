-- Valid counts after each call, block by block, from those before it.
use Rattle.std.specs.Prelude.{ℕ, ◌+◌, ◌/◌, ◌≤◌, ◌<◌, ◌≡◌, List, Bool, eqb, length, get_or}
use Rattle.std.proofs.Common.{ap, arith, ne_eqb}
use Rattle.rules.specs.Counting.{count}
use Rattle.rules.specs.Extents.{none}
use Rattle.rules.specs.Device.{Device, blocks, lines, at, valid}
use Rattle.rules.specs.Placement.{puts_at, places_at}
use Rattle.rules.specs.Request.{with_table, trimmed}
use Rattle.rules.specs.Reclaim.{reclaimed_at}
use Rattle.laws.specs.Sums.{count_same}
use Rattle.laws.specs.Cells.{count_sets, count_wiped}
use Rattle.laws.specs.Device.{SoundDevice, none-block}
use Rattle.laws.specs.Balance.{valid-lines, valid-stale}
use Rattle.laws.specs.Placed.{Opens, puts-table, puts-pages, puts-sound, length-places, places-block}
use Rattle.laws.specs.Lines.{trimmed-sound}
use Rattle.laws.specs.Reclaimed.{re_blocks, re_sound, re_fill-victim, re_fill-reserve, re_fill}
use Rattle.laws.specs.Gains.{re_stale-reserve, re_stale-other}

-- pages put: one less where each line was, one more where it goes
puts-lines_in : (l : ℕ) (bs : List ℕ) (d : Device) → Opens l bs d → l + length bs ≤ lines d → (c : ℕ)
    → count (lines (puts_at l bs d)) (λ k. eqb (at (puts_at l bs d) k / d.pages) c) + count (length bs) (λ i. eqb (at d (l + i) / d.pages) c)
    ≡ count (lines d) (λ k. eqb (at d k / d.pages) c) + count (length bs) (λ i. eqb (get_or bs i 0) c)
puts-lines_in l bs d v h c =
    let ps = places_at l bs d in
    let n = length-places l bs d in
    let t : ℕ → Bool = λ p. eqb (p / d.pages) c in
    rw (puts-table l bs d) (omega (
      arith,
      count_sets none t ps d.table l (omega arith),
      ap (λ (x : ℕ). count x (λ i. t (at d (l + i)))) n,
      ap (λ (x : ℕ). count x (λ i. t (get_or ps i none))) n,
      count_same (length bs) (λ i. t (get_or ps i none)) (λ i. eqb (get_or bs i 0) c) (λ i a. ap (λ (x : ℕ). eqb x c) (places-block l bs d v i a)),
    ))

pub puts-valid : (l : ℕ) (bs : List ℕ) (d : Device) → SoundDevice d → Opens l bs d → l + length bs ≤ lines d → (c : ℕ) → c < blocks d
    → valid (puts_at l bs d) c + count (length bs) (λ i. eqb (at d (l + i) / d.pages) c) ≡ valid d c + count (length bs) (λ i. eqb (get_or bs i 0) c)
puts-valid l bs d s v h c a =
    let p = puts-sound l bs d s v h in
    omega (
      arith,
      valid-lines (puts_at l bs d) p.sound c (omega (arith, p.blocks)),
      ap (λ (n : ℕ). count (lines (puts_at l bs d)) (λ k. eqb (at (puts_at l bs d) k / n) c)) (puts-pages l bs d),
      puts-lines_in l bs d v h c,
      valid-lines d s c a,
    )

-- a trim: one less for each line of the range that was in the block, and only once
pub trim-valid : (k l n : ℕ) (d : Device) → SoundDevice d → l + n ≤ lines d → (c : ℕ) → c < blocks d
    → valid (trimmed k l n d) c + count n (λ i. eqb (at d (l + i) / d.pages) c) ≡ valid d c
unfolding trimmed with_table
trim-valid k l n d s h c t =
    omega (
      arith,
      valid-lines (trimmed k l n d) (trimmed-sound k l n d s h) c t,
      count_wiped none (λ p. eqb (p / d.pages) c) (ne_eqb (none / d.pages) c (none-block d s c t)) n d.table l h,
      valid-lines d s c t,
    )

-- a reclaim: the victim's go to the reserve
module _ (d : Device) (s : SoundDevice d) (v : ℕ) (a : v < blocks d) (e : v ≡ d.reserve → ⊥) where
  after : (c : ℕ) → c < blocks d → c < blocks (reclaimed_at v d)
  after c h = omega (arith, re_blocks d s v a e)

  pub re_valid-victim : valid (reclaimed_at v d) v ≡ 0
  re_valid-victim = omega (arith, valid-stale (reclaimed_at v d) (re_sound d s v a e) v (after v a), re_fill-victim d s v a e)

  pub re_valid-reserve : valid (reclaimed_at v d) d.reserve ≡ valid d v
  re_valid-reserve =
      omega (arith, valid-stale (reclaimed_at v d) (re_sound d s v a e) d.reserve (after d.reserve s.kept), re_fill-reserve d s v a e, re_stale-reserve d s v a e)

  pub re_valid : (c : ℕ) → c < blocks d → (c ≡ v → ⊥) → (c ≡ d.reserve → ⊥) → valid (reclaimed_at v d) c ≡ valid d c
  re_valid c h f g =
      omega (arith, valid-stale (reclaimed_at v d) (re_sound d s v a e) c (after c h), valid-stale d s c h, re_fill d s v a e c f g, re_stale-other d s v a e c h f)
