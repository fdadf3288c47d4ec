-- A part of a slice, as it is lent and as it comes back.
use Rattle.std.specs.Prelude.{ℕ, ◌+◌, ◌-◌, ◌≤◌, ◌<◌, List, ◌++◌, ◌≡◌, length, get_or, take, drop}
use Rattle.std.proofs.Common.{append_assoc, ap, ap₂, ◌∙◌, arith, length-take, length-drop, take_at, drop_at, get_or-take, get_or-drop, length-take-le}
use borrow.Rule.Slice.PartMut.{mid_of, put_mid}

-- a part from a to e of a shared slice: its length, and its words
module _ (a e : ℕ) (xs : List ℕ) (ae : a ≤ e) (el : e ≤ length xs) where
  pub part_length : length (take (e - a) (drop a xs)) ≡ e - a
  part_length = simp (length-take, length-drop) (omega arith)

  pub part_at : (k : ℕ) → k < e - a → get_or (take (e - a) (drop a xs)) k 0 ≡ get_or xs (a + k) 0
  part_at k p = rw (get_or-take, get_or-drop)

-- a part moved up as `shift_up` gives it back, and then other words put over its first `by`
pub up_put : (a n b by : ℕ) (xs ys new : List ℕ) → a ≤ length xs → by ≤ length (mid_of a n xs) → b ≡ by
    → ys ≡ take by (mid_of a n xs) ++ take (length (mid_of a n xs) - by) (mid_of a n xs)
    → put_mid a b (put_mid a n xs ys) new ≡ take a xs ++ (new ++ (take (length (mid_of a n xs) - by) (mid_of a n xs) ++ drop n (drop a xs)))
up_put a n b by xs ys new h s e f =
    let mid : List ℕ = mid_of a n xs in
    let up : List ℕ = take (length mid - by) mid in
    let rest : List ℕ = drop n (drop a xs) in
    let size : length (take a xs) ≡ a = length-take-le a xs h in
    let back : drop a (take a xs ++ (ys ++ rest)) ≡ take by mid ++ (up ++ rest) =
    drop_at (take a xs) (ys ++ rest) a size ∙ ap (λ (t : List ℕ). t ++ rest) f ∙ append_assoc (take by mid) up rest in
    ap₂ (λ (x y : List ℕ). x ++ (new ++ y)) (take_at (take a xs) (ys ++ rest) a size)
    (ap₂ (λ (k : ℕ) (t : List ℕ). drop k t) e back ∙ drop_at (take by mid) (up ++ rest) by (length-take-le by mid s))
