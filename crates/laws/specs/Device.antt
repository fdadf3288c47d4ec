-- What a sound device is, rule by rule, and how its pages lie: a page is a block and an offset below N, and is not `none`.
use Rattle.std.specs.Prelude.{ℕ, ◌+◌, ◌*◌, ◌/◌, ◌%◌, ◌≤◌, ◌<◌, ◌≡◌, List, length, get_or}
use Rattle.std.proofs.Common.{sym, ap, ◌∙◌, arith, le-div_iff_mul-le}
use Rattle.std.proofs.Math.Arith.{digits_lt, digits_div, digits_mod}
use Rattle.rules.specs.Extents.{none}
use Rattle.rules.specs.Device.{Device, blocks, lines, at, fill, label}

-- 01, a sound state, rule 4: page p lies below B x N and below its block's fill, and its spare entry is l
pub record Home (d : Device) (l p : ℕ) : Type 0 where
  pub block : ℕ
  pub offset : ℕ
  pub is : p ≡ block * d.pages + offset
  pub inside : block < blocks d
  pub below : offset < fill d block
  pub labelled : label d p ≡ l

pub record SoundDevice (d : Device) : Type 0 where
  pub some : 0 < d.pages
  pub words : blocks d * d.pages ≤ none
  pub whole : length d.spare ≡ blocks d * d.pages
  -- rule 3
  pub full : (b : ℕ) → b < blocks d → fill d b ≤ d.pages
  pub labels : (b o : ℕ) → b < blocks d → o < fill d b → label d (b * d.pages + o) < lines d
  pub blank : (b o : ℕ) → b < blocks d → fill d b ≤ o → o < d.pages → label d (b * d.pages + o) ≡ none
  -- rule 4
  pub home : (l : ℕ) → (at d l ≡ none → ⊥) → Home d l (at d l)
  -- rule 6
  pub kept : d.reserve < blocks d
  pub empty : fill d d.reserve ≡ 0

-- cells of a device, labels or contents, are empty from each fill on
abbrev pub Blank : {A : Type 0} → A → List A → Device → Type 0
Blank z xs d = (b o : ℕ) → b < blocks d → fill d b ≤ o → o < d.pages → get_or xs (b * d.pages + o) z ≡ z

-- ---- pages by block and offset

pub same_block : (n b c o q : ℕ) → o < n → q < n → b * n + o ≡ c * n + q → b ≡ c
same_block n b c o q h k e = sym (digits_div b h) ∙ ap (λ (x : ℕ). x / n) e ∙ digits_div c k

pub same-offset : (n b c o q : ℕ) → o < n → q < n → b * n + o ≡ c * n + q → o ≡ q
same-offset n b c o q h k e = sym (digits_mod b h) ∙ ap (λ (x : ℕ). x % n) e ∙ digits_mod c k

module _ (d : Device) (s : SoundDevice d) where
  pub page_lt : (b o : ℕ) → b < blocks d → o < d.pages → b * d.pages + o < none
  page_lt b o h k = omega (arith, digits_lt {q = b} {m = blocks d} {r = o} {c = d.pages} h k, s.words)

  pub none-block : (b : ℕ) → b < blocks d → none / d.pages ≡ b → ⊥
  none-block b h e = omega (arith, (le-div_iff_mul-le {k = d.pages} {x = blocks d} {y = none} s.some).1 s.words)

  pub offset_lt : (l : ℕ) (m : at d l ≡ none → ⊥) → (s.home l m).offset < d.pages
  offset_lt l m = let h = s.home l m in omega (arith, h.below, s.full h.block h.inside)

  pub home-block : (l : ℕ) (m : at d l ≡ none → ⊥) → at d l / d.pages ≡ (s.home l m).block
  home-block l m = let h = s.home l m in ap (λ (x : ℕ). x / d.pages) h.is ∙ digits_div h.block (offset_lt l m)
