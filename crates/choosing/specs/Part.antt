-- A part of a slice that comes back filled with one word.
use Rattle.std.specs.Prelude.{◌≡◌, ℕ, ◌+◌, ◌-◌, ◌≤◌, List, length, take, drop, replicate}
use Rattle.std.proofs.Common.{sym, ◌∙◌, append_assoc, arith, drop-drop}
use borrow.Rule.Slice.PartMut.{mid_of, put_mid, mid_len}
use Rattle.std.proofs.lemmas.List.{length-replicate}
use Rattle.std.proofs.lemmas.List.Edits.{sets, sets-eq}

pub part_filled : (a k : ℕ) (xs ys : List ℕ) (x : ℕ) → a + k ≤ length xs → ys ≡ replicate (length (mid_of a (a + k - a) xs)) x
    → put_mid a (a + k - a) xs ys ≡ sets xs a (replicate k x)
part_filled a k xs ys x h eq =
    let z : a + k - a ≡ k = omega arith in
    let w : length (replicate k x) ≡ k = length-replicate k x in
    let m : length (mid_of a (a + k - a) xs) ≡ k = mid_len a (a + k) xs h ∙ z in
    rw (eq, m, z, drop-drop, sets-eq (replicate k x) xs a (omega arith), w) (sym (append_assoc (take a xs) (replicate k x) (drop (a + k) xs)))
