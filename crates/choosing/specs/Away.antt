-- How far a page lies behind the first page of a block, by a subtraction that wraps: less than a block exactly where it lies in the block.
use Rattle.std.specs.Prelude.{◌≡◌, ℕ, ◌+◌, ◌-◌, ◌*◌, ◌/◌, ◌%◌, ◌^◌, ◌<◌, ◌≤◌, ◌≢◌}
use Rattle.std.proofs.Common.{ap, ◌∙◌, arith, mod-lt, div-add-mod'}
use Rattle.std.proofs.Math.Arith.{digits_div, digits_mod}

-- page p less the first page of block v, as words subtract
abbrev pub behind : ℕ → ℕ → ℕ → ℕ
behind n v p = (p + (2 ^ 32 - v * n)) % 2 ^ 32

-- page p lies o pages behind the first page of block v
pub record Away (n v p o : ℕ) : Type 0 where
  pub block : o < n → p / n ≡ v
  pub offset : o < n → p % n ≡ o
  pub other : n ≤ o → p / n ≢ v

pub away : (n v p : ℕ) → 0 < n → v * n + n ≤ 2 ^ 32 → p < 2 ^ 32 → Away n v p (behind n v p)
away n v p z h t =
    let o = behind n v p in
    let near : o < n → p ≡ v * n + o = λ s. omega arith in
    record {
      block = λ s. ap (λ (x : ℕ). x / n) (near s) ∙ digits_div v s;
      offset = λ s. ap (λ (x : ℕ). x % n) (near s) ∙ digits_mod v s;
      other = λ s g. omega (arith, div-add-mod' p n, ap (λ (x : ℕ). x * n) g, mod-lt p z);
    }
