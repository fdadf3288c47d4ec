-- Which pages of a block the extents hold.
use Rattle.std.specs.Prelude.{◌≡◌, ℕ, ◌+◌, ◌-◌, ◌*◌, ◌/◌, ◌%◌, ◌<◌, ◌≤◌, Bool, true, false, ◌&&◌, ◌||◌, List, [], ◌∷◌, ◌++◌, ◌≢◌, nat_le, nat_lt}
use Rattle.std.proofs.Math.Bool.{or-false}
use Rattle.std.proofs.Common.{sym, ap, ◌∙◌, arith}
use Rattle.std.proofs.Math.Logic.{by_cases}
use Rattle.std.proofs.Math.Decide.{dec_lt}
use Rattle.std.proofs.Math.Arith.{digits_div}
use borrow.Author.Tests.{le-leb, lt-leb, lt-ltb, le-ltb, leb-true, ltb-true}
use Rattle.rules.specs.declared.Extent.{Extent}
use Rattle.laws.specs.Bools.{cases, and_split, and-join}
use Rattle.laws.specs.Rows.{div_shift}

-- page p is one of the extent's
unfoldable pub has_page : Extent → ℕ → Bool
has_page e p = nat_le e.physical p && nat_lt p (e.physical + e.count)

-- an extent of the list holds page o of block v
unfoldable pub covered : List Extent → ℕ → ℕ → ℕ → Bool
covered [] n v o = false
covered (e ∷ es) n v o = has_page e (v * n + o) || covered es n v o

module _ (e : Extent) (p : ℕ) where
  pub holds-true : e.physical ≤ p → p < e.physical + e.count → has_page e p ≡ true
  unfolding has_page
  holds-true h t = and-join _ _ (le-leb e.physical p h) (lt-ltb p (e.physical + e.count) t)

  pub holds-low : p < e.physical → has_page e p ≡ false
  unfolding has_page
  holds-low h = rw (lt-leb e.physical p h)

  pub holds-high : e.physical + e.count ≤ p → has_page e p ≡ false
  unfolding has_page
  holds-high h = rw (le-leb e.physical p (omega arith), le-ltb p (e.physical + e.count) h)

  pub true-holds : has_page e p ≡ true → (e.physical ≤ p) × (p < e.physical + e.count)
  unfolding has_page
  true-holds h =
      let s = and_split _ _ h in
      (leb-true e.physical p s.0, ltb-true p (e.physical + e.count) s.1)

-- an extent that lies in its block holds pages of that block only
pub holds-block : (n v o : ℕ) (e : Extent) → o < n → e.physical % n + e.count ≤ n → (e.physical / n ≢ v) → has_page e (v * n + o) ≡ false
holds-block n v o e h s f =
    by_cases (dec_lt (v * n + o) e.physical)
    (λ a. holds-low e (v * n + o) a)
    (λ a. by_cases (dec_lt (v * n + o) (e.physical + e.count))
    (λ b. let i = v * n + o - e.physical in
    let at : e.physical + i ≡ v * n + o = omega arith in
    absurd (f (sym (div_shift n e.physical i (omega arith)) ∙ ap (λ (x : ℕ). x / n) at ∙ digits_div v h)))
    (λ b. holds-high e (v * n + o) (omega arith)))

-- one extent more, at the end
pub covered_more : (es : List Extent) (e : Extent) (n v o : ℕ) → covered (es ++ e ∷ []) n v o ≡ (covered es n v o || has_page e (v * n + o))
unfolding covered
covered_more [] e n v o = or-false (has_page e (v * n + o))
covered_more (x ∷ es) e n v o = cases (has_page x (v * n + o)) (λ t. rw t) (λ t. rw t (covered_more es e n v o))
