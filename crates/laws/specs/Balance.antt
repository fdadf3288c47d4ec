-- Free, live and stale pages of a sound device: they make up all blocks but the reserve.
use Prim.Native.Nat.{ℕ, suc, ◌+◌, ◌-◌, ◌*◌, ◌/◌, ◌≤◌, ◌<◌}
use Rattle.std.specs.Prelude.{◌≡◌, refl, Bool, not, ◌&&◌}
use Rattle.std.proofs.Math.Path.{sym, ap}
use Rattle.std.proofs.Common.{◌∙◌, subst, suc-mul, eq-eqb, ne_eqb}
use Rattle.std.proofs.Math.Logic.{by_cases}
use native.Mathlib.Omega.{arith}
use Rattle.std.proofs.Math.Decide.{ℕ_discrete}
use Rattle.std.proofs.Math.Dec.{eqb}
use Rattle.rules.specs.Counting.{one, sum, count}
use Rattle.rules.specs.Extents.{none}
use Rattle.rules.specs.Device.{Device, blocks, lines, at, fill, label, mapped, named, valid, stale_in, stale, live, room, free}
use Rattle.laws.specs.Sums.{sum_same, sum_add, sum_const, sum-zero, sum_change, sum_one, sum-swap, count-sum, count_same, count-not, count_le}
use Rattle.laws.specs.Device.{SoundDevice, same_block, same-offset, page_lt, offset_lt, none-block, home-block}
use Rattle.laws.specs.Live.{live_at, named-line, named_live}

pub room-other : (d : Device) (b : ℕ) → (b ≡ d.reserve → ⊥) → room d b ≡ d.pages - fill d b
unfolding room
room-other d b e = rw (ne_eqb b d.reserve e)

pub room-reserve : (d : Device) → room d d.reserve ≡ 0
unfolding room
room-reserve d = rw (eq-eqb d.reserve d.reserve refl)

pub live_le : (d : Device) → live d ≤ lines d
unfolding live
live_le d = count_le (lines d) (mapped d)

module _ (d : Device) (s : SoundDevice d) where
  -- ---- the mapped pages of a block are its live pages

  -- a line has a page of block b iff its page is one of the programmed ones
  in_block : (l b : ℕ) → b < blocks d → one (eqb (at d l / d.pages) b) ≡ sum (fill d b) (λ o. one (eqb (at d l) (b * d.pages + o)))
  in_block l b h =
      by_cases (ℕ_discrete (at d l) none)
      (λ e. rw e (ap one (ne_eqb (none / d.pages) b (none-block d s b h))
      ∙ sym (sum-zero (fill d b) (λ o. one (eqb none (b * d.pages + o)))
      (λ o t. ap one (ne_eqb none (b * d.pages + o) (λ g. omega (arith, page_lt d s b o h (omega (arith, s.full b h)))))))))
      (λ m. let r = s.home l m in
      let z = offset_lt d s l m in
      let q = home-block d s l m in
      by_cases (ℕ_discrete r.block b)
      (λ e. ap one (eq-eqb (at d l / d.pages) b (q ∙ e))
      ∙ sym (sum_one (fill d b) (λ o. one (eqb (at d l) (b * d.pages + o))) r.offset
      (subst (λ (x : ℕ). r.offset < fill d x) e r.below)
      (λ o t f. ap one (ne_eqb (at d l) (b * d.pages + o) (λ g. f (same-offset d.pages b r.block o r.offset (omega (arith, s.full b h)) z (sym g ∙ r.is)))))
      ∙ ap one (eq-eqb (at d l) (b * d.pages + r.offset) (r.is ∙ ap (λ (x : ℕ). x * d.pages + r.offset) e))))
      (λ e. ap one (ne_eqb (at d l / d.pages) b (λ g. e (sym q ∙ g)))
      ∙ sym (sum-zero (fill d b) (λ o. one (eqb (at d l) (b * d.pages + o)))
      (λ o t. ap one (ne_eqb (at d l) (b * d.pages + o) (λ g. e (same_block d.pages r.block b r.offset o z (omega (arith, s.full b h)) (sym r.is ∙ g))))))))

  -- a programmed page belongs to the line of its label or to none
  one_line : (b o : ℕ) → b < blocks d → o < fill d b → sum (lines d) (λ l. one (eqb (at d l) (b * d.pages + o))) ≡ one (named d b o)
  unfolding live_at
  one_line b o h k =
      let z : o < d.pages = omega (arith, s.full b h) in
      sum_one (lines d) (λ l. one (eqb (at d l) (b * d.pages + o))) (label d (b * d.pages + o)) (s.labels b o h k)
      (λ l t f. ap one (ne_eqb (at d l) (b * d.pages + o) (λ g. f (sym (named-line d s b h o l z g)))))
      ∙ ap one (sym (named_live d s b h o z))

  hole-elsewhere : (l b : ℕ) → b < blocks d → (mapped d l && eqb (at d l / d.pages) b) ≡ eqb (at d l / d.pages) b
  unfolding mapped
  hole-elsewhere l b h =
      by_cases (ℕ_discrete (at d l) none)
      (λ e. rw e (sym (ne_eqb (none / d.pages) b (none-block d s b h))))
      (λ e. rw (ne_eqb (at d l) none e))

  -- 01, a sound state, rule 5: the valid count is the number of lines in the block
  pub valid-lines : (b : ℕ) → b < blocks d → valid d b ≡ count (lines d) (λ l. eqb (at d l / d.pages) b)
  unfolding valid
  valid-lines b h =
      count_same (lines d) (λ l. mapped d l && eqb (at d l / d.pages) b) (λ l. eqb (at d l / d.pages) b) (λ l t. hole-elsewhere l b h)

  pub valid-named : (b : ℕ) → b < blocks d → valid d b ≡ count (fill d b) (named d b)
  valid-named b h =
      valid-lines b h
      ∙ count-sum (lines d) (λ l. eqb (at d l / d.pages) b)
      ∙ sum_same (lines d) (λ l. one (eqb (at d l / d.pages) b)) (λ l. sum (fill d b) (λ o. one (eqb (at d l) (b * d.pages + o)))) (λ l t. in_block l b h)
      ∙ sum-swap (lines d) (fill d b) (λ l o. one (eqb (at d l) (b * d.pages + o)))
      ∙ sum_same (fill d b) (λ o. sum (lines d) (λ l. one (eqb (at d l) (b * d.pages + o)))) (λ o. one (named d b o)) (λ o t. one_line b o h t)
      ∙ sym (count-sum (fill d b) (named d b))

  -- ---- live pages, block by block

  -- a line has a page in one block or in none
  one_block : (l : ℕ) → one (mapped d l) ≡ sum (blocks d) (λ b. one (eqb (at d l / d.pages) b))
  unfolding mapped
  one_block l =
      by_cases (ℕ_discrete (at d l) none)
      (λ e. ap (λ (x : Bool). one (not x)) (eq-eqb (at d l) none e)
      ∙ sym (sum-zero (blocks d) (λ b. one (eqb (at d l / d.pages) b))
      (λ b t. ap one (ne_eqb (at d l / d.pages) b (λ g. none-block d s b t (sym (ap (λ (x : ℕ). x / d.pages) e) ∙ g))))))
      (λ m. let r = s.home l m in
      let q = home-block d s l m in
      ap (λ (x : Bool). one (not x)) (ne_eqb (at d l) none m)
      ∙ sym (sum_one (blocks d) (λ b. one (eqb (at d l / d.pages) b)) r.block r.inside
      (λ b t f. ap one (ne_eqb (at d l / d.pages) b (λ g. f (sym g ∙ q))))
      ∙ ap one (eq-eqb (at d l / d.pages) r.block q)))

  pub live-valid : live d ≡ sum (blocks d) (valid d)
  unfolding live
  live-valid =
      count-sum (lines d) (mapped d)
      ∙ sum_same (lines d) (λ l. one (mapped d l)) (λ l. sum (blocks d) (λ b. one (eqb (at d l / d.pages) b))) (λ l t. one_block l)
      ∙ sum-swap (lines d) (blocks d) (λ l b. one (eqb (at d l / d.pages) b))
      ∙ sum_same (blocks d) (λ b. sum (lines d) (λ l. one (eqb (at d l / d.pages) b))) (valid d)
      (λ b t. sym (valid-lines b t ∙ count-sum (lines d) (λ l. eqb (at d l / d.pages) b)))

  -- ---- the balance

  pub valid-stale : (b : ℕ) → b < blocks d → valid d b + stale_in d b ≡ fill d b
  unfolding stale_in
  valid-stale b h = omega (arith, valid-named b h, count-not (fill d b) (named d b))

  pub valid_le : (b : ℕ) → b < blocks d → valid d b ≤ d.pages
  valid_le b h = omega (arith, valid-stale b h, s.full b h)

  pub stale-reserve : stale_in d d.reserve ≡ 0
  stale-reserve = omega (arith, valid-stale d.reserve s.kept, s.empty)

  pub balance : free d + live d + stale d + d.pages ≡ blocks d * d.pages
  unfolding free stale
  balance =
      let all : ℕ → ℕ = λ b. room d b + valid d b + stale_in d b in
      omega (
        arith,
        live-valid,
        sum_add (blocks d) (room d) (valid d),
        sum_add (blocks d) (λ b. room d b + valid d b) (stale_in d),
        sum_change (blocks d) all (λ b. d.pages) d.reserve s.kept
            (λ b t e. omega (arith, room-other d b e, valid-stale b t, s.full b t)),
        sum_const (blocks d) d.pages,
        room-reserve d,
        valid-stale d.reserve s.kept,
        s.empty,
      )

  -- 01, a sound state: free + live + stale = (B - 1) x N
  pub balance' : free d + live d + stale d ≡ (blocks d - 1) * d.pages
  balance' =
      let k = blocks d - 1 in
      let e : blocks d ≡ suc k = omega (arith, s.kept) in
      omega (arith, balance, ap (λ (x : ℕ). x * d.pages) e, suc-mul k d.pages)
