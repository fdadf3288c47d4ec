-- The stale pages of a block by its record, and the search for the block that has most, the victim.
use Rattle.std.specs.Prelude.{◌≡◌, ℕ, ◌+◌, ◌-◌, ◌<◌, ◌≤◌, List, refl}
use Rattle.std.proofs.Math.Path.{sym, ap}
use Rattle.std.proofs.Common.{◌∙◌, add-one, arith}
use Rattle.std.proofs.Math.Logic.{by_cases}
use Rattle.std.proofs.Math.Decide.{dec_lt}
use borrow.Author.Tests.{lt-ltb, le-ltb}
use Rattle.rules.specs.Counting.{most}
use Rattle.rules.specs.Blocks.{fill_word, valid_word}
use Rattle.rules.specs.Device.{Device, blocks, fill, valid, stale_in}
use Rattle.rules.specs.Reclaim.{victim}
use Rattle.laws.specs.Picks.{most-same}
use Rattle.laws.specs.Device.{SoundDevice}
use Rattle.laws.specs.Balance.{valid-stale}

-- what stands below the fill and is not valid
abbrev pub stale_word : List ℕ → ℕ → ℕ
stale_word ws b = fill_word ws b - valid_word ws b

-- ---- the search: of the first n numbers r has most, and k is what it has

pub record Most (n : ℕ) (f : ℕ → ℕ) (r k : ℕ) : Type 0 where
  pub is : r ≡ most n f
  pub none : n ≡ 0 → k ≡ 0
  pub some : 0 < n → k ≡ f r

pub most-start : (f : ℕ → ℕ) → Most 0 f 0 0
unfolding most
most-start f = record { is = refl; none = λ e. refl; some = λ h. absurd (omega arith) }

module _ (n : ℕ) (f : ℕ → ℕ) (r k : ℕ) (m : Most n f r k) where
  -- the very first is the lowest
  lowest : n ≡ 0 → r ≡ n
  unfolding most
  lowest e = m.is ∙ ap (λ (i : ℕ). most i f) e ∙ sym e

  keeps : f n ≤ f r → r ≡ most (n + 1) f
  unfolding most
  keeps h = let e = m.is in rw (add-one n, ← e, le-ltb (f r) (f n) h)

  takes : f r < f n → n ≡ most (n + 1) f
  unfolding most
  takes h = let e = m.is in rw (add-one n, ← e, lt-ltb (f r) (f n) h)

  pub most-more : k < f n → Most (n + 1) f n (f n)
  most-more h = record {
    is = by_cases (dec_lt 0 n)
        (λ s. takes (omega (arith, m.some s)))
        (λ s. let e = lowest (omega arith) in sym e ∙ keeps (omega (arith, ap f e)));
    none = λ e. absurd (omega arith);
    some = λ s. refl;
  }

  pub most-stays : f n ≤ k → Most (n + 1) f r k
  most-stays h = record {
    is = by_cases (dec_lt 0 n)
        (λ s. keeps (omega (arith, m.some s)))
        (λ s. let e = lowest (omega arith) in keeps (omega (arith, ap f e)));
    none = λ e. absurd (omega arith);
    some = λ _. by_cases (dec_lt 0 n)
        m.some
        (λ s. let e = lowest (omega arith) in omega (arith, ap f e, m.none (omega arith)));
  }

-- by the records of a sound device it is the victim
pub victim-words : (d : Device) → SoundDevice d → (ws : List ℕ) → ((b : ℕ) → b < blocks d → fill_word ws b ≡ fill d b)
    → ((b : ℕ) → b < blocks d → valid_word ws b ≡ valid d b) → most (blocks d) (stale_word ws) ≡ victim d
unfolding victim
victim-words d s ws f w = most-same (blocks d) (stale_word ws) (stale_in d) (λ b h. omega (arith, f b h, w b h, valid-stale d s b h))
