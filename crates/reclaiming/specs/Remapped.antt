-- The map after a reclaim: each extent moved whole, and joined wherever rule 2 asks; the joining from the left.
use Rattle.std.specs.Prelude.{◌≡◌, ℕ, ◌+◌, ◌*◌, ◌/◌, ◌%◌, ◌<◌, Bool, true, false, cond, List, [], ◌∷◌, ◌++◌, map, length, ◌==◌, ◌≢◌, slice_index, slice_index_or, refl}
use Rattle.std.proofs.Common.{sym, ap, ◌∙◌, append_assoc, arith, mod-lt}
use Rattle.std.proofs.Math.Logic.{by_cases}
use Rattle.std.proofs.Math.Decide.{ℕ_discrete}
use borrow.Author.Tests.{eq-eqb, ne_eqb}
use Rattle.std.proofs.Math.Arith.{digits_div}
use Rattle.rules.specs.Extents.{extent, joinable, join}
use Rattle.rules.specs.declared.Extent.{Extent}
use Rattle.laws.specs.Bools.{cases, never, same_test}
use Rattle.laws.specs.Cells.{map_same}
use Rattle.laws.specs.Unique.{extent_path}
use Rattle.laws.specs.Runs.{joinable-true, joined-true, join-joined, join_apart}
use Rattle.laws.specs.Norm.{norm, move, moves_to, moves_to_here, moves_to_else}
use Rattle.choosing.specs.Covered.{covered}
use Rattle.choosing.specs.Ranks.{Ranks}

-- the extents of a map after block v is emptied into block r
unfoldable pub remapped : ℕ → ℕ → ℕ → List Extent → List Extent
remapped n v r es = norm n (map (move (moves_to n (covered es n v) v r)) es)

-- ---- where a page goes, by the ranks

unfoldable pub ranked_page : ℕ → List ℕ → ℕ → ℕ → ℕ → ℕ
ranked_page n ranks v r p = cond (p / n == v) (r * n + slice_index ranks (p % n)) p

module _ (n : ℕ) (ranks : List ℕ) (v r p : ℕ) where
  pub place_here : p / n ≡ v → ranked_page n ranks v r p ≡ r * n + slice_index ranks (p % n)
  unfolding ranked_page
  place_here e = rw (eq-eqb (p / n) v e)

  pub place_else : (p / n ≢ v) → ranked_page n ranks v r p ≡ p
  unfolding ranked_page
  place_else e = rw (ne_eqb (p / n) v e)

  -- what is moved lies in block r
  pub place-block : p / n ≡ v → slice_index ranks (p % n) < n → ranked_page n ranks v r p / n ≡ r
  place-block e h = ap (λ (q : ℕ). q / n) (place_here e) ∙ digits_div r h

  pub place_moves : (live : ℕ → Bool) → 0 < n → Ranks n live ranks → ranked_page n ranks v r p ≡ moves_to n live v r p
  place_moves live z h =
      by_cases (ℕ_discrete (p / n) v)
      (λ e. let m : p % n < n = mod-lt p z in
      place_here e ∙ ap (λ (k : ℕ). r * n + k) (h.rank (p % n) (omega arith)) ∙ sym (moves_to_here n live v r p e))
      (λ e. place_else e ∙ sym (moves_to_else n live v r p e))

pub places-moved : (n : ℕ) (ranks : List ℕ) (v r : ℕ) (live : ℕ → Bool) (es : List Extent) → 0 < n → Ranks n live ranks
    → map (move (ranked_page n ranks v r)) es ≡ map (move (moves_to n live v r)) es
places-moved n ranks v r live es z h =
    map_same (move (ranked_page n ranks v r)) (move (moves_to n live v r)) (extent 0 0 0) es
    (λ i s. let e = slice_index_or es i (extent 0 0 0) in
    extent_path (move (ranked_page n ranks v r) e) (move (moves_to n live v r) e) refl (place_moves n ranks v r e.physical live z h) refl)

-- ---- joinable looks at where the first ends and where the second begins

pub joinable_second : (n : ℕ) (a b c : Extent) → b.logical ≡ c.logical → b.physical ≡ c.physical → joinable n a b ≡ joinable n a c
unfolding joinable
joinable_second n a b c l p = rw (l, p)

-- extents of different blocks are not joinable
pub other_block : (n : ℕ) (a b : Extent) → (a.physical / n ≢ b.physical / n) → false ≡ joinable n a b
other_block n a b f = sym (never (joinable n a b) (λ t. f (joinable-true n a b t).block))

-- two joined end where the second ended
pub joinable-both : (n : ℕ) (a b c : Extent) → joinable n a b ≡ true → joinable n (extent a.logical a.physical (a.count + b.count)) c ≡ joinable n b c
joinable-both n a b c e =
    let j = joinable-true n a b e in
    let both = extent a.logical a.physical (a.count + b.count) in
    same_test (joinable n both c) (joinable n b c)
    (λ t. let k = joinable-true n both c t in
    joined-true n b c (record { block = sym j.block ∙ k.block; logical = omega (arith, j.logical, k.logical); physical = omega (arith, j.physical, k.physical) }))
    (λ t. let k = joinable-true n b c t in
    joined-true n both c (record { block = j.block ∙ k.block; logical = omega (arith, j.logical, k.logical); physical = omega (arith, j.physical, k.physical) }))

-- ---- from the left: an extent behind others, joined with the last of them where rule 2 asks

unfoldable pub push : ℕ → List Extent → Extent → List Extent
push n [] x = x ∷ []
push n (a ∷ []) x = join n a (x ∷ [])
push n (a ∷ b ∷ bs) x = a ∷ push n (b ∷ bs) x

join-push : (n : ℕ) (a : Extent) (es : List Extent) (x : Extent) → join n a (push n es x) ≡ push n (join n a es) x
unfolding push join
join-push n a [] x = refl
join-push n a (b ∷ []) x =
    let ab = extent a.logical a.physical (a.count + b.count) in
    let bx = extent b.logical b.physical (b.count + x.count) in
    let second : joinable n a bx ≡ joinable n a b = joinable_second n a bx b refl refl in
    cases (joinable n a b)
    (λ s. let first : push n (join n a (b ∷ [])) x ≡ join n ab (x ∷ []) = ap (λ (es : List Extent). push n es x) (join-joined n a b [] s) in
    cases (joinable n b x)
    (λ t. ap (join n a) (join-joined n b x [] t) ∙ join-joined n a bx [] (second ∙ s)
    ∙ ap (λ (c : ℕ). extent a.logical a.physical c ∷ []) (omega arith)
    ∙ sym (first ∙ join-joined n ab x [] (joinable-both n a b x s ∙ t)))
    (λ t. ap (join n a) (join_apart n b x [] t) ∙ join-joined n a b (x ∷ []) s ∙ sym (first ∙ join_apart n ab x [] (joinable-both n a b x s ∙ t))))
    (λ s. let first : push n (join n a (b ∷ [])) x ≡ a ∷ join n b (x ∷ []) = ap (λ (es : List Extent). push n es x) (join_apart n a b [] s) in
    cases (joinable n b x)
    (λ t. ap (join n a) (join-joined n b x [] t) ∙ join_apart n a bx [] (second ∙ s) ∙ sym (first ∙ ap (λ (es : List Extent). a ∷ es) (join-joined n b x [] t)))
    (λ t. ap (join n a) (join_apart n b x [] t) ∙ join_apart n a b (x ∷ []) s ∙ sym (first ∙ ap (λ (es : List Extent). a ∷ es) (join_apart n b x [] t))))
join-push n a (b ∷ c ∷ bs) x = cases (joinable n a b) (λ s. rw s) (λ s. rw s)

pub norm-push : (n : ℕ) (es : List Extent) (x : Extent) → norm n (es ++ x ∷ []) ≡ push n (norm n es) x
unfolding norm push join
norm-push n [] x = refl
norm-push n (a ∷ es) x = ap (join n a) (norm-push n es x) ∙ join-push n a (norm n es) x

-- the last of those that stand already
pub push-last : (n : ℕ) (es : List Extent) (a x : Extent) → push n (es ++ a ∷ []) x ≡ es ++ join n a (x ∷ [])
unfolding push
push-last n [] a x = refl
push-last n (b ∷ []) a x = refl
push-last n (b ∷ c ∷ es) a x = ap (λ (ys : List Extent). b ∷ ys) (push-last n (c ∷ es) a x)

-- ---- behind others, the last of which it is not joinable with

join_more : (n : ℕ) (a : Extent) (es : List Extent) (x : Extent) → 0 < length es → join n a (es ++ x ∷ []) ≡ join n a es ++ x ∷ []
unfolding join
join_more n a [] x h = absurd (omega arith)
join_more n a (b ∷ es) x h = cases (joinable n a b) (λ s. rw s) (λ s. rw s)

join-some : (n : ℕ) (a : Extent) (es : List Extent) → 0 < length (join n a es)
unfolding join
join-some n a [] = omega arith
join-some n a (b ∷ es) = cases (joinable n a b) (λ s. rw s (omega arith)) (λ s. rw s (omega arith))

norm-apart : (n : ℕ) (es : List Extent) (a x : Extent) → joinable n a x ≡ false → norm n (es ++ a ∷ x ∷ []) ≡ norm n (es ++ a ∷ []) ++ x ∷ []
unfolding norm join
norm-apart n [] a x t = join_apart n a x [] t
norm-apart n (b ∷ es) a x t = ap (join n b) (norm-apart n es a x t) ∙ join_more n b (norm n (es ++ a ∷ [])) x (norm-some es)
  where
    norm-some : (es : List Extent) → 0 < length (norm n (es ++ a ∷ []))
    norm-some [] = omega arith
    norm-some (c ∷ cs) = join-some n c (norm n (cs ++ a ∷ []))

pub push-behind : (n : ℕ) (es : List Extent) (a x : Extent) → joinable n a x ≡ false → push n (norm n (es ++ a ∷ [])) x ≡ norm n (es ++ a ∷ []) ++ x ∷ []
push-behind n es a x t = sym (norm-push n (es ++ a ∷ []) x) ∙ ap (norm n) (append_assoc es (a ∷ []) (x ∷ [])) ∙ norm-apart n es a x t
