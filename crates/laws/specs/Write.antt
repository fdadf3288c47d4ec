-- A write: new extents put in between what lies below a range and what lies above it, joined where they meet.
use Rattle.std.specs.Prelude.{ℕ, ◌+◌, ◌-◌, ◌≤◌, ◌<◌, ◌≡◌, refl, List, [], ◌∷◌, ◌++◌, length}
use Rattle.std.proofs.Common.{◌∙◌, arith}
use Rattle.std.proofs.lemmas.List.Edits.{sets}
use Rattle.rules.specs.Extents.{none, lookup, join, runs}
use Rattle.rules.specs.declared.Extent.{Extent}
use Rattle.laws.specs.Rows.{Rows, rows-first, lookup_cons}
use Rattle.laws.specs.Runs.{join-rows, join-lookup, runs-rows, runs-lookup, WordLines, encode_sets}
use Rattle.laws.specs.Cut.{below, from, below_rows, from-rows, below-lookup, from-lookup, append_left, append_right}

-- extents in front of others, each joined with what follows it where rule 2 asks
unfoldable pub glue : ℕ → List Extent → List Extent → List Extent
glue n [] ys = ys
glue n (x ∷ es) ys = join n x (glue n es ys)

pub glue-lookup : (n : ℕ) (es ys : List Extent) (l : ℕ) → lookup (glue n es ys) l ≡ lookup (es ++ ys) l
unfolding glue
glue-lookup n [] ys l = refl
glue-lookup n (x ∷ es) ys l = join-lookup n x (glue n es ys) l ∙ lookup_cons x (glue n es ys) (es ++ ys) l (glue-lookup n es ys l)

pub glue-rows : (n m hi : ℕ) (es ys : List Extent) (lo q q' : ℕ) → Rows n lo q m es → Rows n m q' hi ys → Rows n lo none hi (glue n es ys)
unfolding glue
glue-rows n m hi [] ys lo q q' h t = rows-first n hi ys m q' lo h t
glue-rows n m hi (x ∷ es) ys lo q q' h t =
    join-rows n hi x (glue n es ys) lo none
    (record { above = h.0.above; some = h.0.some; inside = h.0.inside; small = h.0.small; apart = λ eq f. absurd (omega arith) })
    (glue-rows n m hi es ys _ _ q' h.1 t)

-- new extents for the lines from a up to b
unfoldable pub place : ℕ → ℕ → ℕ → List Extent → List Extent → List Extent
place n a b new es = glue n (below a es) (glue n new (from b es))

module _ (n hi a b : ℕ) (new es : List Extent) (s : a ≤ b) (f : b ≤ hi) (w : Rows n a none b new) (h : Rows n 0 none hi es) where
  low : Rows n 0 none a (below a es)
  low = below_rows n hi a es 0 none (omega arith) h

  high : Rows n b none hi (from b es)
  high = from-rows n hi b es 0 none f h

  mid : Rows n a none hi (glue n new (from b es))
  mid = glue-rows n b hi new (from b es) a none none w high

  pub place-rows : Rows n 0 none hi (place n a b new es)
  unfolding place
  place-rows = glue-rows n a hi (below a es) (glue n new (from b es)) 0 none none low mid

  pub place-left : (l : ℕ) → l < a → lookup (place n a b new es) l ≡ lookup es l
  unfolding place
  place-left l g =
      glue-lookup n (below a es) (glue n new (from b es)) l
      ∙ append_left n a a hi (below a es) (glue n new (from b es)) 0 none none l low mid g g
      ∙ below-lookup a es l g

  rest : (l : ℕ) → a ≤ l → lookup (place n a b new es) l ≡ lookup (new ++ from b es) l
  unfolding place
  rest l g =
      glue-lookup n (below a es) (glue n new (from b es)) l
      ∙ append_right n a (below a es) (glue n new (from b es)) 0 none l low g
      ∙ glue-lookup n new (from b es) l

  pub place_in : (l : ℕ) → a ≤ l → l < b → lookup (place n a b new es) l ≡ lookup new l
  place_in l g t = rest l g ∙ append_left n b b hi new (from b es) a none none l w high t t

  pub place-right : (l : ℕ) → b ≤ l → lookup (place n a b new es) l ≡ lookup es l
  place-right l g = rest l (omega arith) ∙ append_right n b new (from b es) a none l w g ∙ from-lookup b es l g

-- the extents of a table into which the words vs were stored from line a on
pub write-place : (n : ℕ) → 0 < n → (a : ℕ) (vs t : List ℕ) → a + length vs ≤ length t → WordLines vs → WordLines t
    → place n a (a + length vs) (runs n a vs) (runs n 0 t) ≡ runs n 0 (sets t a vs)
write-place n z a vs t f v w =
    encode_sets n z a vs t (place n a b new es) f v w (place-rows n (length t) a b new es (omega arith) f made sound)
    (place-left n (length t) a b new es (omega arith) f made sound)
    (λ j g h. place_in n (length t) a b new es (omega arith) f made sound j g h ∙ runs-lookup n z vs a j (j - a) v (omega arith))
    (place-right n (length t) a b new es (omega arith) f made sound)
  where
    b : ℕ
    b = a + length vs

    new : List Extent
    new = runs n a vs

    es : List Extent
    es = runs n 0 t

    made : Rows n a none b new
    made = runs-rows n z vs a b v refl

    sound : Rows n 0 none (length t) es
    sound = runs-rows n z t 0 (length t) w (omega arith)
