-- How the cases of document 01 are written down and run: a table of rows. A row begins on a fresh device or where an earlier row ended, as "P4: P3, .." does; requests
-- follow, and what is then looked at, each with what must come out.
use Rattle.std.specs.Prelude.{ℕ, ◌*◌, Bool, true, false, ◌&&◌, List, [], ◌∷◌, ◌++◌, map, eqb, get_or, take, replicate}
use Rattle.rules.specs.Blocks.{stride}
use Rattle.rules.specs.Lent.{Lent}
use Rattle.rules.specs.Answers.{Outcome}
use Rattle.rules.specs.Calls.{Call, call, fresh}

pub data Look : Type 0 where
  -- a request: the refusal's number, or 0; the counts; and the words that the counts speak of
  answer : Call → Look
  -- the whole map: the words of the extents in use
  the_map : Look
  the_reserve : Look

pub record Expect : Type 0 where
  pub look : Look
  pub must : List ℕ

abbrev pub expect : Look → List ℕ → Expect
expect a m = record { look = a; must = m }

pub data From : Type 0 where
  -- a fresh device of B, N, L and M
  anew : ℕ → ℕ → ℕ → ℕ → From
  -- where that row of the table ended, counted from 1
  row : ℕ → From

pub record Case : Type 0 where
  pub from : From
  pub before : List Call
  pub expects : List Expect

-- the words of the answer buffer for each thing counted: 3 a piece, 1 a copied page
abbrev pub width : Call → ℕ
width (Call.write k l n out) = 3
width (Call.trim k l n) = 0
width (Call.read l n out) = 3
width (Call.reclaim out) = 1
width Call.report = 0

unfoldable pub answer_of : Call → Outcome Lent → List ℕ
answer_of c o = o.refusal ∷ (o.counts ++ take (width c * get_or o.counts 0 0) o.out)

unfoldable pub look_at : Look → Lent → List ℕ
look_at (Look.answer c) s = answer_of c (call c s)
look_at Look.the_map s = take (3 * s.head.used) s.extent_words
look_at Look.the_reserve s = s.head.reserve ∷ []

unfoldable pub next : Look → Lent → Lent
next (Look.answer c) s = (call c s).after
next Look.the_map s = s
next Look.the_reserve s = s

unfoldable pub after_all : List Call → Lent → Lent
after_all [] s = s
after_all (c ∷ cs) s = after_all cs (call c s).after

-- what comes out, step by step, and the state that is left
unfoldable pub seen : List Expect → Lent → List (List ℕ)
seen [] s = []
seen (x ∷ xs) s = look_at x.look s ∷ seen xs (next x.look s)

unfoldable pub left : List Expect → Lent → Lent
left [] s = s
left (x ∷ xs) s = left xs (next x.look s)

-- a fresh device, in words that held something else
unfoldable pub start : ℕ → ℕ → ℕ → ℕ → Lent
start b n l m = (fresh b n l m (replicate (3 * m) 7) (replicate (stride * b) 7) (replicate (b * n) 7)).after

-- where a row begins, if those before it ended so
unfoldable pub begun : From → List Lent → Lent
begun (From.anew b n l m) ended = start b n l m
begun (From.row k) ended = get_or (start 0 0 0 0 ∷ ended) k (start 0 0 0 0)

-- what comes out of each row, and what must
unfoldable pub comes_from : List Case → List Lent → List (List (List ℕ))
comes_from [] ended = []
comes_from (c ∷ cs) ended =
    let s = after_all c.before (begun c.from ended) in
    seen c.expects s ∷ comes_from cs (ended ++ left c.expects s ∷ [])

unfoldable pub comes : List Case → List (List (List ℕ))
comes cs = comes_from cs []

unfoldable pub musts : List Case → List (List (List ℕ))
musts cs = map (λ c. map (λ x. x.must) c.expects) cs

-- ---- the test

unfoldable pub same_by : {A : Type 0} → (A → A → Bool) → List A → List A → Bool
same_by t [] [] = true
same_by t [] (y ∷ ys) = false
same_by t (x ∷ xs) [] = false
same_by t (x ∷ xs) (y ∷ ys) = t x y && same_by t xs ys

unfoldable pub holds : List Case → Bool
holds cs = same_by (same_by (same_by eqb)) (comes cs) (musts cs)
