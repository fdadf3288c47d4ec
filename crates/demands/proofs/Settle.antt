-- Reclaiming while a page is stale: it ends after at most B - 1 reclaims, and then there is room for every write.
use Rattle.std.specs.Prelude.{ℕ, zero, suc, ◌-◌, ◌*◌, ◌≤◌, ◌<◌, ◌≡◌, refl, cond, eqb, ltb, length}
use Rattle.std.proofs.Common.{ap, ◌∙◌, arith, suc-mul, eq-eqb, ne_eqb, le-ltb}
use Rattle.std.proofs.Math.Logic.{by_cases}
use Rattle.std.proofs.Math.Decide.{ℕ_discrete}
use Rattle.rules.specs.Device.{Device, blocks, lines, stale_in, live, stale, free}
use Rattle.rules.specs.Reclaim.{reclaimed}
use Rattle.laws.specs.Sums.{count_lt}
use Rattle.laws.specs.Device.{SoundDevice}
use Rattle.laws.specs.Balance.{balance, live_le, stale-reserve}
use Rattle.laws.specs.Gains.{stale_blocks, reclaim-all}

-- at most k reclaims, none once nothing is stale
unfoldable pub settle : ℕ → Device → Device
settle zero d = d
settle (suc k) d = let rest = settle k (reclaimed d) in cond (eqb (stale d) 0) d rest

pub settle-done : (k : ℕ) (d : Device) → stale d ≡ 0 → settle k d ≡ d
unfolding settle
settle-done zero d e = refl
settle-done (suc k) d e = rw (eq-eqb (stale d) 0 e)

pub settle-more : (k : ℕ) (d : Device) → (stale d ≡ 0 → ⊥) → settle (suc k) d ≡ settle k (reclaimed d)
unfolding settle
settle-more k d e = rw (ne_eqb (stale d) 0 e)

pub record Settled (d e : Device) : Type 0 where
  pub sound : SoundDevice e
  pub clean : stale e ≡ 0
  pub pages : e.pages ≡ d.pages
  pub blocks : length e.fills ≡ length d.fills
  pub lines : length e.table ≡ length d.table
  pub slots : e.slots ≡ d.slots
  pub last : e.last ≡ d.last
  pub live : live e ≡ live d

settled_same : (d : Device) → SoundDevice d → stale d ≡ 0 → Settled d d
settled_same d s z = record { sound = s; clean = z; pages = refl; blocks = refl; lines = refl; slots = refl; last = refl; live = refl }

-- a reclaim for each block with stale pages is enough
pub settle-ends : (k : ℕ) (d : Device) → SoundDevice d → stale_blocks d ≤ k → Settled d (settle k d)
settle-ends zero d s h =
    let z : stale d ≡ 0 = by_cases (ℕ_discrete (stale d) 0) (λ e. e) (λ e. omega (arith, (reclaim-all d s (omega arith)).stale_blocks)) in
    rw (settle-done zero d z) (settled_same d s z)
settle-ends (suc k) d s h =
    by_cases (ℕ_discrete (stale d) 0)
    (λ z. rw (settle-done (suc k) d z) (settled_same d s z))
    (λ z. let c = reclaim-all d s (omega arith) in
    let r = settle-ends k (reclaimed d) c.sound (omega (arith, c.stale_blocks)) in
    rw (settle-more k d z) (record {
      sound = r.sound;
      clean = r.clean;
      pages = r.pages ∙ c.pages;
      blocks = r.blocks ∙ c.blocks;
      lines = r.lines ∙ c.lines;
      slots = r.slots ∙ c.slots;
      last = r.last ∙ c.last;
      live = r.live ∙ c.live;
    }))

-- the reserve has none
pub stale_blocks_lt : (d : Device) → SoundDevice d → stale_blocks d < blocks d
unfolding stale_blocks
stale_blocks_lt d s =
    count_lt (blocks d) (λ b. ltb 0 (stale_in d b)) d.reserve s.kept
    (le-ltb 0 (stale_in d d.reserve) (omega (arith, stale-reserve d s)))

-- with nothing stale a whole block is free
pub never_stuck : (d : Device) → SoundDevice d → 2 ≤ blocks d → lines d ≤ (blocks d - 2) * d.pages → stale d ≡ 0 → d.pages ≤ free d
never_stuck d s two h z =
    let k = blocks d - 2 in
    let e : blocks d ≡ suc (suc k) = omega arith in
    omega (arith, balance d s, live_le d, ap (λ (x : ℕ). x * d.pages) e, suc-mul k d.pages, suc-mul (suc k) d.pages)
