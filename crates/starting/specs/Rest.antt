-- The way over the blocks: the pieces that the blocks from b on give.
use Prim.Native.Nat.{ℕ, zero, suc, ◌+◌, ◌-◌, ◌*◌, ◌≤◌, ◌<◌}
use Rattle.std.specs.Prelude.{◌≡◌, refl, take, drop}
use Rattle.std.proofs.Common.{sym, ◌∙◌, mul-le-mul, take_at, drop_at}
use Rattle.std.proofs.Math.Path.{ap}
use mathlib.Core.List.{List, [], ◌∷◌, ◌++◌}
use native.Mathlib.Omega.{arith}
use Rattle.std.proofs.Math.ListN.{length}
use Rattle.rules.specs.Counting.{tabulate}
use Rattle.rules.specs.Extents.{extent}
use Rattle.rules.specs.Blocks.{fill_word}
use Rattle.rules.specs.declared.Extent.{Extent}
use Rattle.laws.specs.Cells.{block_le, length-tabulate, tabulate_append}
use Rattle.laws.specs.Spread.{taken, with_piece, spread, spread_none, spread_skip, spread-some, spread-length, tabulate-each}
use Rattle.starting.specs.Bare.{fills_of}

-- the fills of k blocks from block b on
unfoldable pub fills_from : ℕ → ℕ → List ℕ → List ℕ
fills_from zero b blk = []
fills_from (suc k) b blk = fill_word blk b ∷ fills_from k (b + 1) blk

fills-each : (k b : ℕ) (blk : List ℕ) → fills_from k b blk ≡ tabulate k (λ i. fill_word blk (b + i))
unfolding fills_from tabulate
fills-each zero b blk = refl
fills-each (suc k) b blk =
    let z : b + 0 ≡ b = omega arith in
    ap (λ (x : ℕ). fill_word blk x ∷ fills_from k (b + 1) blk) (sym z)
    ∙ ap (λ (r : List ℕ). fill_word blk (b + 0) ∷ r) (fills-each k (b + 1) blk
    ∙ tabulate-each k (λ i. fill_word blk (b + 1 + i)) (λ i. fill_word blk (b + suc i)) (λ i. let e : b + 1 + i ≡ b + suc i = omega arith in ap (fill_word blk) e))

-- the fills of all blocks: of those before b, and of those from b on
pub fills_split : (blocks b : ℕ) (blk : List ℕ) → b ≤ blocks → fills_of blocks blk ≡ tabulate b (fill_word blk) ++ fills_from (blocks - b) b blk
fills_split blocks b blk h =
    tabulate_append b (blocks - b) blocks (fill_word blk) (omega arith)
    ∙ ap (λ (r : List ℕ). tabulate b (fill_word blk) ++ r) (sym (fills-each (blocks - b) b blk))

pub fills-take : (blocks b : ℕ) (blk : List ℕ) → b ≤ blocks → take b (fills_of blocks blk) ≡ tabulate b (fill_word blk)
fills-take blocks b blk h =
    ap (take b) (fills_split blocks b blk h) ∙ take_at (tabulate b (fill_word blk)) (fills_from (blocks - b) b blk) b (length-tabulate b (fill_word blk))

pub fills-drop : (blocks b : ℕ) (blk : List ℕ) → b ≤ blocks → drop b (fills_of blocks blk) ≡ fills_from (blocks - b) b blk
fills-drop blocks b blk h =
    ap (drop b) (fills_split blocks b blk h) ∙ drop_at (tabulate b (fill_word blk)) (fills_from (blocks - b) b blk) b (length-tabulate b (fill_word blk))

-- a page's number is small
pub page-small : (blocks n b f : ℕ) → b < blocks → blocks ≤ 1024 → n ≤ 256 → f ≤ n → b * n + f ≤ 262144
page-small blocks n b f h s t g = omega (arith, block_le n b blocks h, mul-le-mul {n₁ = blocks} {m₁ = n} {n₂ = 1024} {m₂ = 256} s t)

module _ (n reserve blocks : ℕ) (blk : List ℕ) where
  unfoldable pub rest : ℕ → ℕ → ℕ → List Extent
  rest b l want = spread n reserve (fills_from (blocks - b) b blk) b l want

  -- what block b takes
  abbrev pub takes : ℕ → ℕ → ℕ
  takes b want = taken n reserve b (fill_word blk b) want

  pub rest-drop : (b l want : ℕ) → b ≤ blocks → rest b l want ≡ spread n reserve (drop b (fills_of blocks blk)) b l want
  unfolding rest
  rest-drop b l want h = ap (λ (fs : List ℕ). spread n reserve fs b l want) (sym (fills-drop blocks b blk h))

  pub rest_end : (b l want : ℕ) → blocks ≤ b → rest b l want ≡ []
  unfolding rest fills_from spread
  rest_end b l want h = let z : blocks - b ≡ 0 = omega arith in rw z

  pub rest-done : (b l want : ℕ) → want ≡ 0 → rest b l want ≡ []
  unfolding rest
  rest-done b l want e =
      ap (λ (x : ℕ). spread n reserve (fills_from (blocks - b) b blk) b l x) e ∙ spread_none n reserve (fills_from (blocks - b) b blk) b l

  module _ (b l want : ℕ) (h : b < blocks) where
    fills-next : fills_from (blocks - b) b blk ≡ fill_word blk b ∷ fills_from (blocks - (b + 1)) (b + 1) blk
    unfolding fills_from
    fills-next = let z : blocks - b ≡ suc (blocks - (b + 1)) = omega arith in ap (λ (k : ℕ). fills_from k b blk) z

    pub rest_skip : takes b want ≡ 0 → rest b l want ≡ rest (b + 1) l want
    unfolding rest
    rest_skip e =
        ap (λ (fs : List ℕ). spread n reserve fs b l want) fills-next
        ∙ spread_skip n reserve (fill_word blk b) (fills_from (blocks - (b + 1)) (b + 1) blk) b l want e

    pub rest_some : 0 < takes b want → rest b l want ≡ extent l (b * n + fill_word blk b) (takes b want) ∷ rest (b + 1) (l + takes b want) (want - takes b want)
    unfolding rest
    rest_some e =
        ap (λ (fs : List ℕ). spread n reserve fs b l want) fills-next
        ∙ spread-some n reserve (fill_word blk b) (fills_from (blocks - (b + 1)) (b + 1) blk) b l want e

    pub rest-next : rest b l want ≡ with_piece (extent l (b * n + fill_word blk b) (takes b want)) (rest (b + 1) (l + takes b want) (want - takes b want))
    unfolding rest spread
    rest-next = ap (λ (fs : List ℕ). spread n reserve fs b l want) fills-next

  -- ---- counted

  abbrev pub how_many : ℕ → ℕ → ℕ
  how_many b want = length (rest b 0 want)

  pub many-lines : (b l want : ℕ) → how_many b want ≡ length (rest b l want)
  unfolding rest
  many-lines b l want = spread-length n reserve (fills_from (blocks - b) b blk) b 0 l want

  pub many-end : (b want : ℕ) → blocks ≤ b → how_many b want ≡ 0
  many-end b want h = ap length (rest_end b 0 want h)

  pub many-done : (b want : ℕ) → want ≡ 0 → how_many b want ≡ 0
  many-done b want e = ap length (rest-done b 0 want e)

  module _ (b want m : ℕ) (h : b < blocks) (t : m ≡ takes b want) where
    pub many_skip : m ≤ 0 → how_many b want ≡ how_many (b + 1) (want - m)
    many_skip e =
        let z : want ≡ want - m = omega arith in
        ap length (rest_skip b 0 want h (omega arith)) ∙ ap (how_many (b + 1)) z

    pub many-some : 0 < m → how_many b want ≡ 1 + how_many (b + 1) (want - m)
    unfolding rest
    many-some e =
        let k = takes b want in
        omega (
          arith,
          ap length (rest_some b 0 want h (omega arith)),
          spread-length n reserve (fills_from (blocks - (b + 1)) (b + 1) blk) (b + 1) (0 + k) 0 (want - k),
          ap (λ (x : ℕ). how_many (b + 1) (want - x)) t,
        )
