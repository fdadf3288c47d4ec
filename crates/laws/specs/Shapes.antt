-- The tests of `Shape` pass exactly where the sizes and lengths are as document 01 asks; and the bounds that sizes give.
use Rattle.std.specs.Prelude.{ℕ, ◌-◌, ◌*◌, ◌≤◌, ◌<◌, true, ◌≡◌, length}
use Rattle.std.proofs.Common.{arith, mul-le-mul, mul-le-mul_right, leb-true, le-leb, eqb-true, eq-eqb}
use Rattle.rules.specs.Extents.{none}
use Rattle.rules.specs.Blocks.{stride}
use Rattle.rules.specs.Lent.{Lent}
use Rattle.rules.specs.Shape.{sizes, lengths, shape, shaped}
use Rattle.rules.specs.declared.Head.{Head}
use Rattle.laws.specs.Bools.{and_split}
use Rattle.laws.specs.Sound.{Sizes, Shaped}

pub sizes-true : (b n l m : ℕ) → sizes b n l m ≡ true → Sizes b n l m
unfolding sizes
sizes-true b n l m e =
    let e₇ = and_split _ _ e in
    let e₆ = and_split _ _ e₇.0 in
    let e₅ = and_split _ _ e₆.0 in
    let e₄ = and_split _ _ e₅.0 in
    let e₃ = and_split _ _ e₄.0 in
    let e₂ = and_split _ _ e₃.0 in
    let e₁ = and_split _ _ e₂.0 in
    record {
      b-low = leb-true _ _ e₁.0;
      b-high = leb-true _ _ e₁.1;
      n-low = leb-true _ _ e₂.1;
      n-high = leb-true _ _ e₃.1;
      l_low = leb-true _ _ e₄.1;
      l_high = leb-true _ _ e₅.1;
      m-low = leb-true _ _ e₆.1;
      m-high = leb-true _ _ e₇.1;
    }

pub true-sizes : (b n l m : ℕ) → Sizes b n l m → sizes b n l m ≡ true
unfolding sizes
true-sizes b n l m s =
    simp (le-leb _ _ s.b-low, le-leb _ _ s.b-high, le-leb _ _ s.n-low, le-leb _ _ s.n-high, le-leb _ _ s.l_low, le-leb _ _ s.l_high, le-leb _ _ s.m-low, le-leb _ _ s.m-high)

-- ---- lengths beside sizes

pub record Fitting (h : Head) (extents blocks spare : ℕ) : Type 0 where
  pub sizes : Sizes h.blocks h.pages h.logical h.slots
  pub extents-is : extents ≡ 3 * h.slots
  pub blocks_is : blocks ≡ stride * h.blocks
  pub spare-is : spare ≡ h.blocks * h.pages

pub shape-true : (h : Head) (e k x : ℕ) → shape h e k x ≡ true → Fitting h e k x
unfolding shape lengths
shape-true h e k x t =
    let t₁ = and_split _ _ t in
    let t₂ = and_split _ _ t₁.1 in
    let t₃ = and_split _ _ t₂.0 in
    record { sizes = sizes-true _ _ _ _ t₁.0; extents-is = eqb-true _ _ t₃.0; blocks_is = eqb-true _ _ t₃.1; spare-is = eqb-true _ _ t₂.1 }

pub true-shape : (h : Head) (e k x : ℕ) → Fitting h e k x → shape h e k x ≡ true
unfolding shape lengths
true-shape h e k x f =
    simp (true-sizes _ _ _ _ f.sizes, eq-eqb _ _ f.extents-is, eq-eqb _ _ f.blocks_is, eq-eqb _ _ f.spare-is)

pub shaped-true : (s : Lent) → shaped s ≡ true → Shaped s
unfolding shaped
shaped-true s t =
    let f = shape-true s.head (length s.extent_words) (length s.block_words) (length s.spare) t in
    record { sizes = f.sizes; extents = f.extents-is; blocks = f.blocks_is; spare = f.spare-is }

pub true-shaped : (s : Lent) → Shaped s → shaped s ≡ true
unfolding shaped
true-shaped s h =
    true-shape s.head (length s.extent_words) (length s.block_words) (length s.spare)
    (record { sizes = h.sizes; extents-is = h.extents; blocks_is = h.blocks; spare-is = h.spare })

-- ---- bounds

module _ {b n l m : ℕ} (z : Sizes b n l m) where
  pub some-pages : 0 < n
  some-pages = omega arith

  pub pages-high : b * n ≤ 262144
  pages-high = mul-le-mul z.b-high z.n-high

  pub pages_fit : b * n ≤ none
  pages_fit = omega (arith, pages-high)

  pub lines-pages : l ≤ b * n
  lines-pages = omega (arith, mul-le-mul_right {m = b - 2} {n = b} n (omega arith))
