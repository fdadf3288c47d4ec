-- The pages of a block that are live, in physical order, stored one after the other into an answer buffer.
use Rattle.std.specs.Prelude.{◌≡◌, ℕ, zero, suc, ◌+◌, ◌*◌, ◌<◌, ◌≤◌, Bool, true, false, List, [], ◌∷◌, ◌++◌, map, length, drop, set, slice_index, slice_set}
use Rattle.std.proofs.Math.Path.{refl, sym, ap}
use Rattle.std.proofs.Common.{ap₂, ◌∙◌, arith, add-one, length-append, length-drop, drop-cons}
use mathlib.Core.List.{map-append, append-nil, append_assoc}
use Rattle.std.proofs.lemmas.List.{length-map, set_at}
use Rattle.rules.specs.Counting.{count, picks}
use Rattle.rules.specs.Calls.{over}
use Rattle.laws.specs.Picks.{pick_if, length-picks}

-- live says which offsets of block v are live
unfoldable pub live_pages : ℕ → ℕ → (ℕ → Bool) → List ℕ
live_pages n v live = map (λ o. v * n + o) (picks n live)

-- those below offset k
abbrev pub pages_below : ℕ → ℕ → (ℕ → Bool) → ℕ → List ℕ
pages_below n v live k = map (λ o. v * n + o) (picks k live)

pub length-below : (n v : ℕ) (live : ℕ → Bool) (k : ℕ) → length (pages_below n v live k) ≡ count k live
length-below n v live k = length-map (picks k live) (λ o. v * n + o) ∙ length-picks k live

pub length_over : (xs out : List ℕ) → length xs ≤ length out → length (over xs out) ≡ length out
unfolding over
length_over xs out h = omega (arith, length-append xs (drop (length xs) out), length-drop (length xs) out)

-- one word more
pub over-more : (xs out : List ℕ) (x k : ℕ) → length xs ≡ k → k < length out → slice_set (over xs out) k x ≡ over (xs ++ x ∷ []) out
unfolding over
over-more xs out x k e h =
    let l : length (xs ++ x ∷ []) ≡ suc (length xs) = length-append xs (x ∷ []) ∙ omega arith in
    ap (λ (ys : List ℕ). set (xs ++ ys) k x) (drop-cons out (length xs) 0 (omega arith))
    ∙ set_at xs (slice_index out (length xs)) (drop (suc (length xs)) out) x k e
    ∙ sym (ap (λ (i : ℕ). (xs ++ x ∷ []) ++ drop i out) l ∙ append_assoc xs (x ∷ []) (drop (suc (length xs)) out))

module _ (n v : ℕ) (live : ℕ → Bool) (out : List ℕ) where
  pub listed_start : out ≡ over (pages_below n v live 0) out
  unfolding over picks
  listed_start = refl

  pub listed-live : (o k : ℕ) (out' : List ℕ) → out' ≡ over (pages_below n v live o) out → live o ≡ true → k ≡ count o live → k < length out
      → slice_set out' k (v * n + o) ≡ over (pages_below n v live (o + 1)) out
  unfolding picks
  listed-live o k out' e t c h =
      ap (λ (ys : List ℕ). set ys k (v * n + o)) e
      ∙ over-more (pages_below n v live o) out (v * n + o) k (length-below n v live o ∙ sym c) h
      ∙ sym (ap (λ (xs : List ℕ). over xs out) (ap (pages_below n v live) (add-one o)
      ∙ ap (λ (b : Bool). map (λ i. v * n + i) (picks o live ++ pick_if o b)) t ∙ map-append (λ i. v * n + i) (picks o live) (o ∷ [])))

  pub listed-other : (o : ℕ) (out' : List ℕ) → out' ≡ over (pages_below n v live o) out → live o ≡ false → out' ≡ over (pages_below n v live (o + 1)) out
  unfolding picks
  listed-other o out' e t =
      e ∙ sym (ap (λ (xs : List ℕ). over xs out) (ap (pages_below n v live) (add-one o)
      ∙ ap (λ (b : Bool). map (λ i. v * n + i) (picks o live ++ pick_if o b)) t ∙ ap (map (λ i. v * n + i)) (append-nil (picks o live))))

  pub listed-end : (o : ℕ) (out' : List ℕ) → out' ≡ over (pages_below n v live o) out → o ≡ n → out' ≡ over (live_pages n v live) out
  unfolding live_pages
  listed-end o out' e h = e ∙ ap (λ (k : ℕ). over (pages_below n v live k) out) h

-- which pages are live is asked below n only
picks-same : (k : ℕ) (s t : ℕ → Bool) → ((o : ℕ) → o < k → s o ≡ t o) → picks k s ≡ picks k t
unfolding picks
picks-same zero s t h = refl
picks-same (suc k) s t h = ap₂ (λ (xs : List ℕ) (b : Bool). xs ++ pick_if k b) (picks-same k s t (λ o a. h o (omega arith))) (h k (omega arith))

pub pages-same : (n v : ℕ) (s t : ℕ → Bool) → ((o : ℕ) → o < n → s o ≡ t o) → live_pages n v s ≡ live_pages n v t
unfolding live_pages
pages-same n v s t h = ap (map (λ o. v * n + o)) (picks-same n s t h)
