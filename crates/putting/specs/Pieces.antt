-- Pieces put in between what a cut left, the first of them joined to the extent in front of it where it goes on there; and that this is
-- what a write makes of the extents.
use Rattle.std.specs.Prelude.{ℕ, zero, suc, ◌+◌, ◌%◌, ◌≤◌, ◌≡◌, refl, Bool, List, [], ◌∷◌, ◌++◌, get_or, drop, set}
use Rattle.std.proofs.Math.Path.{sym, ap}
use Rattle.std.proofs.Common.{◌∙◌, arith, length-set}
use Rattle.std.proofs.Math.Bool.{true, false}
use Rattle.std.proofs.Math.ListN.{length, get_or-append}
use Rattle.std.proofs.lemmas.List.{set-append_left}
use Rattle.rules.specs.Counting.{one}
use Rattle.rules.specs.Extents.{none, extent, lookup, joinable}
use Rattle.rules.specs.declared.Extent.{Extent}
use Rattle.laws.specs.Bools.{cases}
use Rattle.laws.specs.Rows.{Rows, rows_le}
use Rattle.laws.specs.Runs.{joinable-first, join-joined, join_apart}
use Rattle.laws.specs.Cut.{below, from, cut, below_rows}
use Rattle.laws.specs.Write.{glue, place}
use Rattle.laws.specs.Counts.{starts_before, left_join, tally, tip, not-next, join-next, no-right, below-joins, below_length}
use Rattle.laws.specs.Slots.{blank}
use Rattle.map.specs.Padded.{spliced, spliced-seam}

-- an extent with c pages more
abbrev pub longer : ℕ → Extent → Extent
longer c x = extent x.logical x.physical (x.count + c)

-- the extent before slot i with c pages more
unfoldable pub lengthened : ℕ → ℕ → List Extent → List Extent
lengthened zero c es = es
lengthened (suc i) c es = set es i (longer c (get_or es i blank))

-- new pieces at slot i, the first joined or not
unfoldable pub put_in : ℕ → Bool → List Extent → List Extent → List Extent
put_in i true new es = spliced i (drop 1 new) (lengthened i (get_or new 0 blank).count es)
put_in i false new es = spliced i new es

-- ---- a write

-- extents in front of f, the last of them joined with it or not
glue-apart : (n m : ℕ) (xs : List Extent) (f : Extent) (ys : List Extent) (lo q : ℕ) → Rows n lo q m xs → left_join n f xs ≡ 0
    → glue n xs (f ∷ ys) ≡ xs ++ f ∷ ys
unfolding glue tally
glue-apart n m [] f ys lo q h s = refl
glue-apart n m (x ∷ []) f ys lo q h s =
    cases (joinable n x f)
    (λ e. absurd (omega (arith, ap one e)))
    (λ e. join_apart n x f ys e)
glue-apart n m (x ∷ z ∷ zs) f ys lo q h s =
    join-next n x z (glue n zs (f ∷ ys)) (joinable-first n x z h.0.some h.1.0.apart)
    ∙ ap (λ (r : List Extent). x ∷ r) (glue-apart n m (z ∷ zs) f ys _ _ h.1 (omega arith))

glue-joined : (n m : ℕ) (xs : List Extent) (f : Extent) (ys : List Extent) (lo q : ℕ) → Rows n lo q m xs → m ≤ f.logical → left_join n f xs ≡ 1
    → glue n xs (f ∷ ys) ≡ lengthened (length xs) f.count xs ++ ys
unfolding glue tally lengthened
glue-joined n m [] f ys lo q h b s = absurd (omega arith)
glue-joined n m (x ∷ []) f ys lo q h b s =
    cases (joinable n x f)
    (λ e. join-joined n x f ys e)
    (λ e. absurd (omega (arith, ap one e)))
glue-joined n m (x ∷ z ∷ zs) f ys lo q h b s =
    let g = rows_le n m zs _ _ h.1.1 in
    join-next n x z (glue n zs (f ∷ ys)) (joinable-first n x z h.0.some h.1.0.apart)
    ∙ ap (λ (r : List Extent). x ∷ r) (glue-joined n m (z ∷ zs) f ys _ _ h.1 b (omega (arith, ap one (not-next n x f (omega arith)))))

pub lengthened-length : (i c : ℕ) (es : List Extent) → length (lengthened i c es) ≡ length es
unfolding lengthened
lengthened-length zero c es = refl
lengthened-length (suc i) c es = length-set es i (longer c (get_or es i blank))

pub lengthened_append : (i c : ℕ) (xs ys : List Extent) → i ≤ length xs → lengthened i c (xs ++ ys) ≡ lengthened i c xs ++ ys
unfolding lengthened
lengthened_append zero c xs ys h = refl
lengthened_append (suc i) c xs ys h =
    ap (λ (x : Extent). set (xs ++ ys) i (longer c x)) (get_or-append xs ys blank i (omega arith))
    ∙ set-append_left xs ys i (longer c (get_or xs i blank)) (omega arith)

-- new extents f, fs for the lines from a up to b, under the hypotheses of `place-length`: no part of an extent that the cut clipped is
-- joinable with them
module _ (n hi a b : ℕ) (f : Extent) (fs es : List Extent) (e : b ≤ hi) (w : Rows n a none b (f ∷ fs)) (h : Rows n 0 none hi es)
    (at : f.logical ≡ a) (left : lookup es a ≡ f.physical → f.physical % n ≡ 0)
    (right : lookup es b ≡ tip none (f ∷ fs) → tip none (f ∷ fs) % n ≡ 0) where
  low : Rows n 0 none a (below a es)
  low = below_rows n hi a es 0 none (omega arith) h

  chained : place n a b (f ∷ fs) es ≡ glue n (below a es) (f ∷ fs ++ from b es)
  unfolding place
  chained = ap (glue n (below a es)) (no-right n hi a b f fs es e w h at left right)

  joins : left_join n f (below a es) ≡ left_join n f es
  joins = below-joins n hi a f es 0 none h at left

  pub place-put : (i : ℕ) (joined : Bool) → i ≡ starts_before a es → one joined ≡ left_join n f es → place n a b (f ∷ fs) es ≡ put_in i joined (f ∷ fs) (cut a b es)
  unfolding put_in cut
  place-put i true s j =
      let size : length (below a es) ≡ i = below_length n hi a es 0 none h ∙ sym s in
      chained ∙ glue-joined n a (below a es) f (fs ++ from b es) 0 none low (omega arith) (joins ∙ sym j)
      ∙ ap (λ (k : ℕ). lengthened k f.count (below a es) ++ (fs ++ from b es)) size
      ∙ sym (ap (spliced i fs) (lengthened_append i f.count (below a es) (from b es) (omega arith))
      ∙ spliced-seam i fs (lengthened i f.count (below a es)) (from b es) (lengthened-length i f.count (below a es) ∙ size))
  place-put i false s j =
      chained ∙ glue-apart n a (below a es) f (fs ++ from b es) 0 none low (joins ∙ sym j)
      ∙ sym (spliced-seam i (f ∷ fs) (below a es) (from b es) (below_length n hi a es 0 none h ∙ sym s))
