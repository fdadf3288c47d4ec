-- What a reclaim gains: the three counts after a block is reclaimed, the victim, which gains most, and a reclaim as a whole.
use Rattle.std.specs.Prelude.{ℕ, ◌+◌, ◌*◌, ◌/◌, ◌≤◌, ◌<◌, ◌≡◌, true, length}
use Rattle.std.proofs.Math.Path.{sym, ap}
use Rattle.std.proofs.Common.{◌∙◌}
use Rattle.std.proofs.Math.Bool.{not}
use Rattle.std.proofs.Math.Logic.{by_cases}
use native.Mathlib.Omega.{arith}
use Rattle.std.proofs.Math.Decide.{dec_lt, ℕ_discrete}
use borrow.Author.Tests.{ne_eqb, lt-ltb, le-ltb}
use Rattle.std.proofs.Math.Arith.{digits_div}
use Rattle.std.proofs.Math.Dec.{ltb}
use Rattle.rules.specs.Counting.{one, count, most}
use Rattle.rules.specs.Extents.{none}
use Rattle.rules.specs.Device.{Device, blocks, lines, at, fill, label, mapped, named, valid, stale_in, stale, live, free}
use Rattle.rules.specs.Reclaim.{victim, goes, reclaimed_at, reclaimed}
use Rattle.laws.specs.Bools.{same_test}
use Rattle.laws.specs.Sums.{sum_change, sum-zero, count_same, count_none, count_change}
use Rattle.laws.specs.Picks.{most_lt, most-top, most-lowest}
use Rattle.laws.specs.Device.{SoundDevice, same_block}
use Rattle.laws.specs.Live.{named_by, named-label}
use Rattle.laws.specs.Balance.{valid-stale, valid_le, stale-reserve, balance}
use Rattle.laws.specs.Reclaimed.{re_last, re_reserve, re_slots, goes-within, nth, rank_lt, re_at, re_at-other, re_at-within, re_blocks}
use Rattle.laws.specs.Reclaimed.{re_fill, re_fill-reserve, re_fill-victim, re_hole, re_lines, re_pages, re_some, re_sound, source, within}

-- how many blocks have stale pages
unfoldable pub stale_blocks : Device → ℕ
stale_blocks d = count (blocks d) (λ b. ltb 0 (stale_in d b))

module _ (d : Device) (s : SoundDevice d) (v : ℕ) (a : v < blocks d) (e : v ≡ d.reserve → ⊥) where
  pub re_mapped : (l : ℕ) → mapped (reclaimed_at v d) l ≡ mapped d l
  unfolding mapped
  re_mapped l =
      by_cases (ℕ_discrete (at d l) none)
      (λ g. rw (g, (re_hole d s v a e) l g))
      (λ m. rw (ne_eqb (at d l) none m, ne_eqb (at (reclaimed_at v d) l) none ((re_some d s v a e) l m)))

  pub re_live : live (reclaimed_at v d) ≡ live d
  unfolding live
  re_live = rw (re_lines d s v a e) (count_same (lines d) (mapped (reclaimed_at v d)) (mapped d) (λ l t. re_mapped l))

  -- pages of the other blocks stay what they were
  re_named-other : (c o : ℕ) → c < blocks d → o < d.pages → (c ≡ v → ⊥) → (c ≡ d.reserve → ⊥) → named (reclaimed_at v d) c o ≡ named d c o
  re_named-other c o h k f g =
      let d' = reclaimed_at v d in
      let p = c * d.pages + o in
      let h' : c < blocks d' = omega (arith, (re_blocks d s v a e)) in
      let k' : o < d'.pages = omega (arith, (re_pages d s v a e)) in
      same_test (named d' c o) (named d c o)
      (λ t. let l = label d' (c * d'.pages + o) in
      let is : at d' l ≡ p = named-label d' (re_sound d s v a e) c h' o k' t ∙ ap (λ (n : ℕ). c * n + o) (re_pages d s v a e) in
      by_cases (ℕ_discrete (at d l / d.pages) v)
      (λ q. let w = (within d s v a e) l q in
      let r = (rank_lt d s v a e) l w in
      absurd (g (sym (same_block d.pages d.reserve c (count w.offset (named d v)) o (omega (arith, valid_le d s v a)) k (sym ((re_at-within d s v a e) l w) ∙ is)))))
      (λ q. named_by d s c h o l k (sym ((re_at-other d s v a e) l q) ∙ is)))
      (λ t. let l = label d p in
      let is = named-label d s c h o k t in
      let q : at d l / d.pages ≡ v → ⊥ = λ y. f (sym (digits_div c k) ∙ sym (ap (λ (x : ℕ). x / d.pages) is) ∙ y) in
      named_by d' (re_sound d s v a e) c h' o l k' ((re_at-other d s v a e) l q ∙ is ∙ sym (ap (λ (n : ℕ). c * n + o) (re_pages d s v a e))))

  -- what went to the reserve is live
  re_named_in : (i : ℕ) → i < valid d v → named (reclaimed_at v d) d.reserve i ≡ true
  re_named_in i h =
      let k = (source d s v a e) i h in
      let l = label d (v * d.pages + nth v d i) in
      named_by (reclaimed_at v d) (re_sound d s v a e) d.reserve (omega (arith, (re_blocks d s v a e), s.kept)) i l (omega (arith, (re_pages d s v a e), valid_le d s v a))
      ((re_at d s v a e) l ∙ ap (goes v d.reserve d) (named-label d s v a (nth v d i) k.below k.passes)
      ∙ (goes-within d s v a e) (nth v d i) k.below
      ∙ ap (λ (x : ℕ). d.reserve * d.pages + x) k.place
      ∙ sym (ap (λ (n : ℕ). d.reserve * n + i) (re_pages d s v a e)))

  pub re_stale-victim : stale_in (reclaimed_at v d) v ≡ 0
  re_stale-victim = omega (arith, valid-stale (reclaimed_at v d) (re_sound d s v a e) v (omega (arith, (re_blocks d s v a e))), (re_fill-victim d s v a e))

  pub re_stale-other : (c : ℕ) → c < blocks d → (c ≡ v → ⊥) → stale_in (reclaimed_at v d) c ≡ stale_in d c
  unfolding stale_in
  re_stale-other c h f =
      by_cases (ℕ_discrete c d.reserve)
      (λ g. rw (g, (re_fill-reserve d s v a e)) (count_none (valid d v) (λ o. not (named (reclaimed_at v d) d.reserve o)) (λ i t. ap not (re_named_in i t)) ∙ sym (stale-reserve d s)))
      (λ g. rw ((re_fill d s v a e) c f g) (count_same (fill d c) (λ o. not (named (reclaimed_at v d) c o)) (λ o. not (named d c o))
      (λ o t. ap not (re_named-other c o h (omega (arith, s.full c h)) f g))))

  pub re_stale-reserve : stale_in (reclaimed_at v d) d.reserve ≡ 0
  re_stale-reserve = re_stale-other d.reserve s.kept (λ g. e (sym g)) ∙ stale-reserve d s

  pub re_stale : stale (reclaimed_at v d) + stale_in d v ≡ stale d
  unfolding stale
  re_stale =
      rw (re_blocks d s v a e) (omega (arith, re_stale-victim, sum_change (blocks d) (stale_in (reclaimed_at v d)) (stale_in d) v a (λ c h f. re_stale-other c h f)))

  -- blocks with stale pages: the victim is one less
  pub re_stale_blocks : 0 < stale_in d v → stale_blocks (reclaimed_at v d) + 1 ≡ stale_blocks d
  unfolding stale_blocks
  re_stale_blocks h =
      rw (re_blocks d s v a e) (omega (
        arith,
        ap one (le-ltb 0 (stale_in (reclaimed_at v d) v) (omega (arith, re_stale-victim))),
        ap one (lt-ltb 0 (stale_in d v) h),
        count_change (blocks d) (λ b. ltb 0 (stale_in (reclaimed_at v d) b)) (λ b. ltb 0 (stale_in d b)) v a (λ c t f. ap (ltb 0) (re_stale-other c t f)),
      ))

-- ---- the victim

pub record Chosen (d : Device) (v : ℕ) : Type 0 where
  pub inside : v < blocks d
  pub other : v ≡ d.reserve → ⊥
  pub gains : 0 < stale_in d v
  pub top : (b : ℕ) → b < blocks d → stale_in d b ≤ stale_in d v
  pub lowest : (b : ℕ) → b < v → stale_in d b < stale_in d v

pub victim-chosen : (d : Device) → SoundDevice d → 0 < stale d → Chosen d (victim d)
unfolding victim stale
victim-chosen d s h =
    let gains : 0 < stale_in d (most (blocks d) (stale_in d)) =
    by_cases (dec_lt 0 (stale_in d (most (blocks d) (stale_in d))))
    (λ g. g)
    (λ g. absurd (omega (arith, sum-zero (blocks d) (stale_in d) (λ b t. omega (arith, most-top (blocks d) (stale_in d) b t))))) in
    record {
      inside = most_lt (blocks d) (stale_in d) (omega (arith, s.kept));
      other = λ e. omega (arith, ap (stale_in d) e, stale-reserve d s);
      gains = gains;
      top = most-top (blocks d) (stale_in d);
      lowest = most-lowest (blocks d) (stale_in d);
    }

pub record Reclaimed (d e : Device) (v : ℕ) : Type 0 where
  pub sound : SoundDevice e
  pub pages : e.pages ≡ d.pages
  pub blocks : length e.fills ≡ length d.fills
  pub lines : length e.table ≡ length d.table
  pub slots : e.slots ≡ d.slots
  pub reserve : e.reserve ≡ v
  pub last : e.last ≡ d.last
  pub live : live e ≡ live d
  pub stale : stale e + stale_in d v ≡ stale d
  pub free : free e ≡ free d + stale_in d v
  pub stale_blocks : stale_blocks e + 1 ≡ stale_blocks d

pub reclaim-all : (d : Device) → SoundDevice d → 0 < stale d → Reclaimed d (reclaimed d) (victim d)
unfolding reclaimed
reclaim-all d s h =
    let c = victim-chosen d s h in
    let v = victim d in
    let z = re_sound d s v c.inside c.other in
    let b = re_blocks d s v c.inside c.other in
    let n = re_pages d s v c.inside c.other in
    let l = re_live d s v c.inside c.other in
    let t = re_stale d s v c.inside c.other in
    record {
      sound = z;
      pages = n;
      blocks = b;
      lines = re_lines d s v c.inside c.other;
      slots = re_slots d s v c.inside c.other;
      reserve = re_reserve d s v c.inside c.other;
      last = re_last d s v c.inside c.other;
      live = l;
      stale = t;
      free = omega (arith, balance d s, balance (reclaimed_at v d) z, ap (λ (x : ℕ). x * (reclaimed_at v d).pages) b, ap (λ (x : ℕ). blocks d * x) n);
      stale_blocks = re_stale_blocks d s v c.inside c.other c.gains;
    }
