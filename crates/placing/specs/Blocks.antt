-- Block records whose fill and valid count rise by what each block takes, block by block.
use Prim.Native.Nat.{ℕ, zero, suc, ◌+◌, ◌-◌, ◌*◌, ◌≤◌, ◌<◌}
use Rattle.std.specs.Prelude.{◌≡◌, length}
use Rattle.std.proofs.Math.Path.{refl, ap, ap₂}
use Rattle.std.proofs.Common.{◌∙◌}
use mathlib.Core.List.{List, ◌∷◌}
use Rattle.std.proofs.Math.Logic.{by_cases}
use native.Mathlib.Omega.{arith}
use Rattle.std.proofs.Math.Decide.{ℕ_discrete}
use Rattle.rules.specs.Blocks.{stride, fill_word, valid_word, HasBlock, block_at, put_block}
use Rattle.rules.specs.declared.BlockRecord.{BlockRecord}
use Rattle.laws.specs.Records.{block_path, put_block-length, put_block_here, put_block_else, put_block-same}
use Rattle.starting.specs.Rest.{fills_from}
use Rattle.laws.specs.Spread.{taken, filled, taken_le}

-- the record of block b with m pages more, each of them mapped
abbrev pub more : ℕ → BlockRecord → BlockRecord
more m r = record { fill = r.fill + m; valid = r.valid + m }

unfoldable pub raised : ℕ → ℕ → List ℕ → List ℕ
raised m b blk = put_block blk b (more m (block_at blk b))

-- k blocks from block b on take `want` pages
unfoldable pub raises : ℕ → ℕ → ℕ → ℕ → ℕ → List ℕ → List ℕ
raises n reserve zero b want blk = blk
raises n reserve (suc k) b want blk =
    let m = taken n reserve b (fill_word blk b) want in
    raises n reserve k (b + 1) (want - m) (raised m b blk)

-- ---- one block

pub raised-none : (m b : ℕ) (blk : List ℕ) → m ≡ 0 → raised m b blk ≡ blk
unfolding raised
raised-none m b blk e =
    let r : more m (block_at blk b) ≡ block_at blk b = block_path (more m (block_at blk b)) (block_at blk b) (omega arith) (omega arith) in
    ap (put_block blk b) r ∙ put_block-same blk b

pub raised-length : (m b : ℕ) (blk : List ℕ) → length (raised m b blk) ≡ length blk
unfolding raised
raised-length m b blk = put_block-length blk b (more m (block_at blk b))

module _ (m b : ℕ) (blk : List ℕ) (h : HasBlock blk b) where
  raised_here : block_at (raised m b blk) b ≡ more m (block_at blk b)
  unfolding raised
  raised_here = put_block_here blk b (more m (block_at blk b)) h

  raised-fill : fill_word (raised m b blk) b ≡ fill_word blk b + m
  raised-fill = ap (λ (r : BlockRecord). r.fill) raised_here

  raised_else : (c : ℕ) → (c ≡ b → ⊥) → block_at (raised m b blk) c ≡ block_at blk c
  unfolding raised
  raised_else c e = put_block_else blk b (more m (block_at blk b)) c e

  raised-fill_else : (c : ℕ) → (c ≡ b → ⊥) → fill_word (raised m b blk) c ≡ fill_word blk c
  raised-fill_else c e = ap (λ (r : BlockRecord). r.fill) (raised_else c e)

  -- in every block the valid count rises as the fill does
  pub raised_rise : (c : ℕ) → valid_word (raised m b blk) c + fill_word blk c ≡ valid_word blk c + fill_word (raised m b blk) c
  raised_rise c =
      by_cases (ℕ_discrete c b)
      (λ e. rw e (omega (arith, raised-fill, ap (λ (r : BlockRecord). r.valid) raised_here)))
      (λ e. omega (arith, raised-fill_else c e, ap (λ (r : BlockRecord). r.valid) (raised_else c e)))

  pub raised-after : (k c : ℕ) → b < c → fills_from k c (raised m b blk) ≡ fills_from k c blk
  unfolding fills_from
  raised-after zero c s = refl
  raised-after (suc k) c s =
      ap₂ (λ (x : ℕ) (r : List ℕ). x ∷ r) (raised-fill_else c (omega arith)) (raised-after k (c + 1) (omega arith))

-- ---- block by block

module _ (n reserve : ℕ) where
  -- the blocks before b stay
  pub raises-before : (k b want : ℕ) (blk : List ℕ) → stride * (b + k) ≤ length blk → (c : ℕ) → c < b → fill_word (raises n reserve k b want blk) c ≡ fill_word blk c
  unfolding raises
  raises-before zero b want blk h c s = refl
  raises-before (suc k) b want blk h c s =
      let m = taken n reserve b (fill_word blk b) want in
      raises-before k (b + 1) (want - m) (raised m b blk) (omega (arith, raised-length m b blk)) c (omega arith)
      ∙ raised-fill_else m b blk (omega arith) c (omega arith)

  pub raises-fills : (k b want : ℕ) (blk : List ℕ) → stride * (b + k) ≤ length blk → fills_from k b (raises n reserve k b want blk) ≡ filled n reserve (fills_from k b blk) b want
  unfolding raises fills_from filled
  raises-fills zero b want blk h = refl
  raises-fills (suc k) b want blk h =
      let m = taken n reserve b (fill_word blk b) want in
      let size = raised-length m b blk in
      ap₂ (λ (x : ℕ) (r : List ℕ). x ∷ r)
      (raises-before k (b + 1) (want - m) (raised m b blk) (omega arith) b (omega arith) ∙ raised-fill m b blk (omega arith))
      (raises-fills k (b + 1) (want - m) (raised m b blk) (omega arith)
      ∙ ap (λ (fs : List ℕ). filled n reserve fs (b + 1) (want - m)) (raised-after m b blk (omega arith) k (b + 1) (omega arith)))

  pub raises_rise : (k b want : ℕ) (blk : List ℕ) → stride * (b + k) ≤ length blk → (c : ℕ)
      → valid_word (raises n reserve k b want blk) c + fill_word blk c ≡ valid_word blk c + fill_word (raises n reserve k b want blk) c
  unfolding raises
  raises_rise zero b want blk h c = omega arith
  raises_rise (suc k) b want blk h c =
      let m = taken n reserve b (fill_word blk b) want in
      omega (arith, raises_rise k (b + 1) (want - m) (raised m b blk) (omega (arith, raised-length m b blk)) c, raised_rise m b blk (omega arith) c)

  raises-none : (k b want : ℕ) (blk : List ℕ) → taken n reserve b (fill_word blk b) want ≡ 0 → raises n reserve (suc k) b want blk ≡ raises n reserve k (b + 1) want blk
  unfolding raises
  raises-none k b want blk e =
      let m = taken n reserve b (fill_word blk b) want in
      let w : want - m ≡ want = omega arith in
      ap₂ (λ (x : ℕ) (ws : List ℕ). raises n reserve k (b + 1) x ws) w (raised-none m b blk e)

  -- of no pages no block takes any
  pub raises-nothing : (k b : ℕ) (blk : List ℕ) → raises n reserve k b 0 blk ≡ blk
  unfolding raises
  raises-nothing zero b blk = refl
  raises-nothing (suc k) b blk =
      let m = taken_le n reserve b (fill_word blk b) 0 in
      raises-none k b 0 blk (omega arith) ∙ raises-nothing k (b + 1) blk
