-- All that the host does in a history is allowed when it comes; so no page is programmed twice between erases, and the pages of a block come in order.
use Rattle.std.specs.Prelude.{ℕ, suc, ◌/◌, ◌≤◌, ◌<◌, true, false, ◌≡◌, length, get_or, set}
use Rattle.std.proofs.lemmas.Bool.{false≢true, eqb-false}
use Rattle.std.proofs.Math.Path.{refl}
use Rattle.std.proofs.Common.{sym, ap, ◌∙◌, subst, arith, eqb-true, get_or-set_same, get_or-set_other}
use mathlib.Core.List.{List, [], ◌∷◌, ◌++◌}
use Rattle.std.proofs.Math.Decide.{ℕ_discrete}
use Rattle.std.proofs.Math.Logic.{by_cases}
use Rattle.std.proofs.Math.ListN.{length-set}
use Rattle.laws.specs.Bools.{cases, or_split}
use Rattle.demands.specs.Flash.{Cell}
use Rattle.demands.specs.Host.{Ask, Op, ops, does, doing, marks, marking, May, Allowed, AllAllowed, World, step}
use Rattle.demands.specs.Demand2.{trace, onto, erasing, erases, NotTwice, InOrder}
use Rattle.demands.proofs.Steps.{call-pages}
use Rattle.demands.proofs.Listed.{allowed_append}
use Rattle.demands.proofs.Worlds.{Faithful, step-holds, step-allowed}

-- ---- a history's steps, one after the other

pub trace-allowed : (m : ℕ) (asks : List Ask) (w : World) → Faithful m w → AllAllowed w.state.head.pages (trace asks w) w.flash w.programmed
unfolding trace step
trace-allowed m [] w h = tt
trace-allowed m (a ∷ rest) w h =
    let n = w.state.head.pages in
    let v = step a w in
    allowed_append n (ops a w.state) (trace rest v) w.flash w.programmed (step-allowed m a w h)
    (subst (λ (k : ℕ). AllAllowed k (trace rest v) v.flash v.programmed) (call-pages a.request w.state) (trace-allowed m rest v (step-holds m a w h)))

allowed-behind : (n : ℕ) (xs ys : List Op) (f : List Cell) (m : List ℕ) → AllAllowed n (xs ++ ys) f m → AllAllowed n ys (doing n xs f) (marking n xs m)
unfolding doing marking
allowed-behind n [] ys f m a = a
allowed-behind n (x ∷ xs) ys f m a = allowed-behind n xs ys (does n x f) (marks n x m) a.1

allowed-front : (n : ℕ) (xs ys : List Op) (f : List Cell) (m : List ℕ) → AllAllowed n (xs ++ ys) f m → AllAllowed n xs f m
allowed-front n [] ys f m a = tt
allowed-front n (x ∷ xs) ys f m a = (a.0, allowed-front n xs ys (does n x f) (marks n x m) a.1)

-- ---- one step

may_onto : (n p : ℕ) (o : Op) (f : List Cell) (m : List ℕ) → onto p o ≡ true → Allowed n o f m → May n p f m
may_onto n p (Op.program q x) f m e a = subst (λ (k : ℕ). May n k f m) (eqb-true q p e) a
may_onto n p (Op.copy q r) f m e a = subst (λ (k : ℕ). May n k f m) (eqb-true r p e) a
may_onto n p (Op.erase b) f m e a = absurd (false≢true e)

marks-onto : (n p : ℕ) (o : Op) (m : List ℕ) → onto p o ≡ true → marks n o m ≡ set m (p / n) (suc (get_or m (p / n) 0))
unfolding marks
marks-onto n p (Op.program q x) m e = ap (λ (k : ℕ). set m (k / n) (suc (get_or m (k / n) 0))) (eqb-true q p e)
marks-onto n p (Op.copy q r) m e = ap (λ (k : ℕ). set m (k / n) (suc (get_or m (k / n) 0))) (eqb-true r p e)
marks-onto n p (Op.erase b) m e = absurd (false≢true e)

one_more : (m : List ℕ) (c b : ℕ) → c < length m → get_or m b 0 ≤ get_or (set m c (suc (get_or m c 0))) b 0
one_more m c b h =
    by_cases (ℕ_discrete b c)
    (λ e. rw (e, get_or-set_same m c (suc (get_or m c 0)) 0 h) (omega arith))
    (λ e. omega (arith, get_or-set_other m c b (suc (get_or m c 0)) 0 e))

-- what does not erase block b leaves its count or raises it
marks_keep : (n b : ℕ) (o : Op) (f : List Cell) (m : List ℕ) → Allowed n o f m → erasing b o ≡ false → get_or m b 0 ≤ get_or (marks n o m) b 0
unfolding marks
marks_keep n b (Op.program p x) f m a e = one_more m (p / n) b a.block
marks_keep n b (Op.copy p q) f m a e = one_more m (q / n) b a.block
marks_keep n b (Op.erase c) f m a e = omega (arith, get_or-set_other m c b 0 0 (λ g. eqb-false c b e (sym g)))

marking-keeps : (n b : ℕ) (os : List Op) (f : List Cell) (m : List ℕ) → AllAllowed n os f m → erases b os ≡ false → get_or m b 0 ≤ get_or (marking n os m) b 0
unfolding marking erases
marking-keeps n b [] f m a e = omega arith
marking-keeps n b (o ∷ os) f m a e =
    let r = or_split (erasing b o) (erases b os) e in
    omega (arith, marks_keep n b o f m a.0 r.0, marking-keeps n b os (does n o f) (marks n o m) a.1 r.1)

-- ---- all of them

module _ (n : ℕ) (os : List Op) (f : List Cell) (m : List ℕ) (a : AllAllowed n os f m) where
  at-step : (before after : List Op) (x : Op) → os ≡ before ++ x ∷ after → AllAllowed n (x ∷ after) (doing n before f) (marking n before m)
  at-step before after x e = allowed-behind n before (x ∷ after) f m (subst (λ (zs : List Op). AllAllowed n zs f m) e a)

  marking-length : (zs : List Op) (k : List ℕ) → length (marking n zs k) ≡ length k
  unfolding marking marks
  marking-length [] k = refl
  marking-length (Op.program p x ∷ zs) k = marking-length zs (marks n (Op.program p x) k) ∙ length-set k (p / n) (suc (get_or k (p / n) 0))
  marking-length (Op.copy p q ∷ zs) k = marking-length zs (marks n (Op.copy p q) k) ∙ length-set k (q / n) (suc (get_or k (q / n) 0))
  marking-length (Op.erase b ∷ zs) k = marking-length zs (marks n (Op.erase b) k) ∙ length-set k b 0

  pub in_order_lem : InOrder n m os
  in_order_lem before after x p e o =
      let y = may_onto n p x (doing n before f) (marking n before m) o (at-step before after x e).0 in
      (omega (arith, y.block, marking-length before m), sym y.next)

  pub not-twice : NotTwice n os
  not-twice before between after x y p e ox oy =
      let f₁ = doing n before f in
      let m₁ = marking n before m in
      let f₂ = does n x f₁ in
      let m₂ = marks n x m₁ in
      let all = at-step before (between ++ y ∷ after) x e in
      let one = may_onto n p x f₁ m₁ ox all.0 in
      let two = may_onto n p y (doing n between f₂) (marking n between m₂) oy (allowed-behind n between (y ∷ after) f₂ m₂ all.1).0 in
      cases (erases (p / n) between)
      (λ t. t)
      (λ t. absurd (omega (
        arith,
        one.next,
        two.next,
        ap (λ (k : List ℕ). get_or k (p / n) 0) (marks-onto n p x m₁ ox) ∙ get_or-set_same m₁ (p / n) (suc (get_or m₁ (p / n) 0)) 0 one.block,
        marking-keeps n (p / n) between f₂ m₂ (allowed-front n between (y ∷ after) f₂ m₂ all.1) t,
      )))
