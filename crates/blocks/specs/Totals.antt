-- The three counts of a state, added up over its block records.
use Rattle.std.specs.Prelude.{ℕ, ◌+◌, ◌-◌, ◌*◌, ◌≤◌, ◌<◌, cond, ◌≡◌, refl, List, eqb, length}
use Rattle.std.proofs.Math.Path.{ap}
use Rattle.std.proofs.Common.{◌∙◌, arith, add-one, eq-eqb, ne_eqb}
use Rattle.std.proofs.Math.Logic.{by_cases}
use Rattle.std.proofs.Math.Decide.{ℕ_discrete}
use Rattle.rules.specs.Counting.{sum}
use Rattle.rules.specs.Blocks.{stride, fill_word, valid_word}
use Rattle.rules.specs.Lent.{Lent, fill_of, valid_of}
use Rattle.rules.specs.Device.{blocks, room, free, live, stale, stale_in, valid, device_of}
use Rattle.rules.specs.declared.Counted.{Counted}
use Rattle.rules.specs.declared.Head.{Head}
use Rattle.laws.specs.Sums.{sum_same}
use Rattle.laws.specs.Sound.{Shaped, SoundState}
use Rattle.laws.specs.Balance.{live-valid, valid-stale}
use Rattle.laws.specs.States.{device-blocks, device-fill, state-storable, valid-in_use}

-- what a sound state gives of its block records
pub record Filled (h : Head) (blk : List ℕ) : Type 0 where
  pub records : length blk ≡ stride * h.blocks
  pub blocks-high : h.blocks ≤ 1024
  pub pages-high : h.pages ≤ 256
  pub full : (b : ℕ) → b < h.blocks → fill_word blk b ≤ h.pages
  pub valid : (b : ℕ) → b < h.blocks → valid_word blk b ≤ fill_word blk b

-- 01: free is the sum of N - fill over all blocks but the reserve
abbrev pub room_left : Head → ℕ → ℕ → ℕ
room_left h b fill = cond (eqb b h.reserve) 0 (h.pages - fill)

abbrev pub room_words : Head → List ℕ → ℕ → ℕ
room_words h blk b = room_left h b (fill_word blk b)

abbrev pub stale_at : List ℕ → ℕ → ℕ
stale_at blk b = fill_word blk b - valid_word blk b

pub record Totalled (h : Head) (blk : List ℕ) (t : Counted) : Type 0 where
  pub free : t.free ≡ sum h.blocks (room_words h blk)
  pub live : t.live ≡ sum h.blocks (valid_word blk)
  pub stale : t.stale ≡ sum h.blocks (stale_at blk)

-- the reserve gives no room
pub room-none : (h : Head) (b f : ℕ) → b ≡ h.reserve → 0 ≡ room_left h b f
room-none h b f e = rw (eq-eqb b h.reserve e)

pub room-some : (h : Head) (b f : ℕ) → (b ≡ h.reserve → ⊥) → h.pages - f ≡ room_left h b f
room-some h b f e = rw (ne_eqb b h.reserve e)

pub room-few : (h : Head) (b f : ℕ) → room_left h b f ≤ h.pages
room-few h b f = by_cases (ℕ_discrete b h.reserve) (λ e. omega (arith, room-none h b f e)) (λ e. omega (arith, room-some h b f e))

-- the loop: the sums over the blocks before b
pub record Summed (h : Head) (blk : List ℕ) (b free live stale : ℕ) : Type 0 where
  pub free-is : free ≡ sum b (room_words h blk)
  pub live-is : live ≡ sum b (valid_word blk)
  pub stale-is : stale ≡ sum b (stale_at blk)
  pub free-high : free ≤ 256 * b
  pub live-high : live ≤ 256 * b
  pub stale-high : stale ≤ 256 * b

sum-next : (b : ℕ) (f : ℕ → ℕ) → sum (b + 1) f ≡ sum b f + f b
unfolding sum
sum-next b f = rw (add-one b)

module _ (h : Head) (blk : List ℕ) where
  pub summed_start : Summed h blk 0 0 0 0
  unfolding sum
  summed_start = record {
    free-is = refl;
    live-is = refl;
    stale-is = refl;
    free-high = omega arith;
    live-high = omega arith;
    stale-high = omega arith;
  }

  pub summed_step : (b free live stale f v room : ℕ) → Filled h blk → b < h.blocks → Summed h blk b free live stale
      → f ≡ fill_word blk b → v ≡ valid_word blk b → room ≡ room_left h b f → Summed h blk (b + 1) (free + room) (live + v) (stale + (f - v))
  summed_step b free live stale f v room g s p ef ev er = record {
    free-is = omega (arith, p.free-is, er, ap (room_left h b) ef, sum-next b (room_words h blk));
    live-is = omega (arith, p.live-is, sum-next b (valid_word blk));
    stale-is = omega (arith, p.stale-is, sum-next b (stale_at blk));
    free-high = omega (arith, p.free-high, er, room-few h b f, g.pages-high);
    live-high = omega (arith, p.live-high, g.full b s, g.valid b s, g.pages-high);
    stale-high = omega (arith, p.stale-high, g.full b s, g.valid b s, g.pages-high);
  }

-- ---- of a sound state: they are the counts of its device

module _ (s : Lent) (z : Shaped s) (f : SoundState s) where
  inside : (b : ℕ) → b < blocks (device_of s) → b < s.head.blocks
  inside b t = omega (arith, device-blocks s)

  -- a block's pages are valid, stale or erased
  parted : (b : ℕ) → b < s.head.blocks → valid_of s b + stale_in (device_of s) b ≡ fill_of s b
  parted b t =
      omega (arith, valid-stale (device_of s) (state-storable s z f).sound b (omega (arith, device-blocks s)), valid-in_use s z f b t, device-fill s b t)

  pub state-filled : Filled s.head s.block_words
  state-filled = record {
    records = z.blocks;
    blocks-high = z.sizes.b-high;
    pages-high = z.sizes.n-high;
    full = f.full;
    valid = λ b t. omega (arith, parted b t);
  }

  pub device-free : free (device_of s) ≡ sum s.head.blocks (room_words s.head s.block_words)
  unfolding free room device_of
  device-free =
      sum_same (blocks (device_of s)) (room (device_of s)) (room_words s.head s.block_words) (λ b t. ap (room_left s.head b) (device-fill s b (inside b t)))
      ∙ ap (λ (k : ℕ). sum k (room_words s.head s.block_words)) (device-blocks s)

  pub device-live : live (device_of s) ≡ sum s.head.blocks (valid_word s.block_words)
  device-live =
      live-valid (device_of s) (state-storable s z f).sound
      ∙ sum_same (blocks (device_of s)) (valid (device_of s)) (valid_word s.block_words) (λ b t. valid-in_use s z f b (inside b t))
      ∙ ap (λ (k : ℕ). sum k (valid_word s.block_words)) (device-blocks s)

  pub device-stale : stale (device_of s) ≡ sum s.head.blocks (stale_at s.block_words)
  unfolding stale
  device-stale =
      sum_same (blocks (device_of s)) (stale_in (device_of s)) (stale_at s.block_words) (λ b t. omega (arith, parted b (inside b t)))
      ∙ ap (λ (k : ℕ). sum k (stale_at s.block_words)) (device-blocks s)
