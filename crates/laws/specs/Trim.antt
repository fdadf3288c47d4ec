-- A trim: the cut of a table's extents is the extents of the table whose range has become holes.
use Rattle.std.specs.Prelude.{ℕ, ◌+◌, ◌-◌, ◌≤◌, ◌<◌, ◌≡◌, List, length, replicate}
use Rattle.std.proofs.Common.{sym, ◌∙◌, arith}
use Rattle.std.proofs.lemmas.List.{length-replicate}
use Rattle.std.proofs.lemmas.List.Edits.{sets}
use Rattle.rules.specs.Extents.{none, runs}
use Rattle.laws.specs.Cells.{replicate-at}
use Rattle.laws.specs.Runs.{runs-rows, WordLines, encode_sets}
use Rattle.laws.specs.Cut.{cut, cut-rows, cut_left, cut_in, cut_right}

pub cut-trims : (n : ℕ) → 0 < n → (l c : ℕ) (t : List ℕ) → 0 < c → l + c ≤ length t → WordLines t → cut l (l + c) (runs n 0 t) ≡ runs n 0 (sets t l (replicate c none))
cut-trims n z l c t p f w =
    let s : l < l + c = omega arith in
    let size = length-replicate c none in
    let sound = runs-rows n z t 0 (length t) w (omega arith) in
    encode_sets n z l (replicate c none) t (cut l (l + c) (runs n 0 t)) (omega arith) (λ i. omega (arith, replicate-at none c i)) w
    (cut-rows n (length t) l (l + c) (runs n 0 t) s f sound)
    (cut_left n (length t) l (l + c) (runs n 0 t) s f sound)
    (λ j g h. cut_in n (length t) l (l + c) (runs n 0 t) s f sound j g (omega arith) ∙ sym (replicate-at none c (j - l)))
    (λ j g. cut_right n (length t) l (l + c) (runs n 0 t) s f sound j (omega arith))
