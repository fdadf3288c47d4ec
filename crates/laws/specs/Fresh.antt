-- The fresh device: it is sound, and all but the reserve is free.
use Rattle.std.specs.Prelude.{ℕ, ◌+◌, ◌-◌, ◌*◌, ◌≤◌, ◌<◌, ◌≡◌}
use Rattle.std.proofs.Math.Path.{ap}
use Rattle.std.proofs.Common.{arith}
use Rattle.std.proofs.Math.ListN.{length-replicate}
use Rattle.rules.specs.Extents.{none}
use Rattle.rules.specs.Device.{blocks, lines, at, fill, label, mapped, valid, stale_in, live, stale, free}
use Rattle.rules.specs.Calls.{fresh_device}
use Rattle.laws.specs.Sums.{sum-zero, count_none}
use Rattle.laws.specs.Cells.{replicate-at}
use Rattle.laws.specs.Device.{SoundDevice}
use Rattle.laws.specs.Balance.{valid-stale, balance'}

module _ (b n l m : ℕ) where
  pub fresh-fill : (c : ℕ) → fill (fresh_device b n l m) c ≡ 0
  unfolding fresh_device
  fresh-fill c = replicate-at {A = ℕ} 0 b c

  pub fresh_at : (k : ℕ) → at (fresh_device b n l m) k ≡ none
  unfolding fresh_device
  fresh_at k = replicate-at none l k

  pub fresh-label : (p : ℕ) → label (fresh_device b n l m) p ≡ none
  unfolding fresh_device
  fresh-label p = replicate-at none (b * n) p

  pub fresh-blocks : blocks (fresh_device b n l m) ≡ b
  unfolding fresh_device
  fresh-blocks = length-replicate {A = ℕ} b 0

  pub fresh_lines : lines (fresh_device b n l m) ≡ l
  unfolding fresh_device
  fresh_lines = length-replicate l none

  pub fresh-live : live (fresh_device b n l m) ≡ 0
  unfolding live mapped
  fresh-live = count_none (lines (fresh_device b n l m)) (mapped (fresh_device b n l m)) (λ k h. rw (fresh_at k))

module _ (b n l m : ℕ) (some : 0 < n) (few : 0 < b) (words : b * n ≤ none) where
  pub fresh-sound : SoundDevice (fresh_device b n l m)
  unfolding fresh_device
  fresh-sound = record {
    some = some;
    words = rw (fresh-blocks b n l m) words;
    whole = rw (fresh-blocks b n l m) (length-replicate (b * n) none);
    full = λ c h. omega (arith, fresh-fill b n l m c);
    labels = λ c o h k. absurd (omega (arith, fresh-fill b n l m c));
    blank = λ c o h k i. fresh-label b n l m (c * n + o);
    home = λ k u. absurd (u (fresh_at b n l m k));
    kept = omega (arith, fresh-blocks b n l m);
    empty = fresh-fill b n l m (b - 1);
  }

  pub fresh-valid : (c : ℕ) → c < b → valid (fresh_device b n l m) c ≡ 0
  fresh-valid c h =
      omega (arith, valid-stale (fresh_device b n l m) fresh-sound c (omega (arith, fresh-blocks b n l m)), fresh-fill b n l m c)

  pub fresh-stale : stale (fresh_device b n l m) ≡ 0
  unfolding stale
  fresh-stale =
      sum-zero (blocks (fresh_device b n l m)) (stale_in (fresh_device b n l m)) (λ c h. omega (arith, valid-stale (fresh_device b n l m) fresh-sound c h, fresh-fill b n l m c))

  fresh-size : (blocks (fresh_device b n l m) - 1) * (fresh_device b n l m).pages ≡ (b - 1) * n
  unfolding fresh_device
  fresh-size = ap (λ (x : ℕ). (x - 1) * n) (fresh-blocks b n l m)

  pub fresh-free : free (fresh_device b n l m) ≡ (b - 1) * n
  fresh-free = omega (arith, balance' (fresh_device b n l m) fresh-sound, fresh-size, fresh-live b n l m, fresh-stale)
