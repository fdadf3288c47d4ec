-- What a read that nothing refuses lists and answers.
use Rattle.std.specs.Prelude.{ℕ, suc, ◌+◌, ◌*◌, ◌≤◌, ◌<◌, ◌≡◌, ltb}
use Rattle.std.proofs.Math.Path.{sym, ap}
use Rattle.std.proofs.Common.{◌∙◌, arith}
use mathlib.Core.List.{List, [], ◌∷◌}
use Rattle.std.proofs.Math.ListN.{length}
use Rattle.rules.specs.Extents.{none, end, flat}
use Rattle.rules.specs.Lent.{Lent, in_use}
use Rattle.rules.specs.Device.{device_of}
use Rattle.rules.specs.Read.{with_hole, with_holes, found}
use Rattle.rules.specs.Answers.{said, outcome}
use Rattle.rules.specs.Calls.{Call, refusal, over, call}
use Rattle.rules.specs.Views.{reading}
use Rattle.rules.specs.declared.Extent.{Extent}
use Rattle.laws.specs.Bools.{cases}
use Rattle.laws.specs.Rows.{Rows}
use Rattle.laws.specs.Cut.{below, from, from-rows}
use Rattle.laws.specs.Counts.{below_length, from-length, tally_le}
use Rattle.laws.specs.Slots.{slots_length}
use Rattle.laws.specs.Shapes.{lines-pages, pages-high}
use Rattle.laws.specs.States.{device-lines}
use Rattle.laws.specs.Views.{view-accepts, read_view}
use Rattle.reading.specs.Walk.{between, found-words}
use Rattle.refusals.specs.Accepts.{Ready}

-- ---- a piece for each extent and a hole for each gap, at most

hole-length : (a b : ℕ) (es : List Extent) → length (with_hole a b es) ≤ suc (length es)
unfolding with_hole
hole-length a b es = cases (ltb a b) (λ e. rw e (omega arith)) (λ e. rw e (omega arith))

holes_length : (a b : ℕ) (es : List Extent) → length (with_holes a b es) ≤ 2 * length es + 1
unfolding with_holes
holes_length a b [] = omega (arith, hole-length a b [])
holes_length a b (e ∷ es) = omega (arith, hole-length a e.logical (e ∷ with_holes (end e) b es), holes_length (end e) b es)

few-pieces : (n hi l e : ℕ) (es : List Extent) → e ≤ hi → l ≤ hi → Rows n 0 none hi es → length (between l e es) ≤ 2 * length es + 1
few-pieces n hi l e es g f h =
    let r = from-rows n hi l es 0 none f h in
    omega (
      arith,
      holes_length l e (below e (from l es)),
      below_length n hi e (from l es) l none r,
      tally_le (λ x. ltb x.logical e) (from l es),
      from-length n hi l es 0 none h,
      tally_le (λ x. ltb l (end x)) es,
    )

-- k pieces listed in the answer buffer
pub record ListedPieces (l n : ℕ) (s : Lent) (k : ℕ) (out after : List ℕ) : Type 0 where
  pub pieces : k ≡ length (between l (l + n) (in_use s))
  pub words : after ≡ over (flat (between l (l + n) (in_use s))) out

module _ (l n : ℕ) (out : List ℕ) (s : Lent) (z : Ready (Call.read l n out) s) where
  pub read-inside : (0 < n) × (l + n ≤ s.head.logical) × (s.head.logical ≤ 262144)
  read-inside =
      let t = z.taken.range in
      let i = t.inside in
      (t.some, omega (arith, device-lines s), omega (arith, lines-pages z.shape.sizes, pages-high z.shape.sizes))

  is_found : found l n (device_of s) ≡ between l (l + n) (in_use s)
  is_found = found-words s z.shape z.sound l n read-inside.1

  pub read-slots : 3 * s.head.used ≤ length s.extent_words
  read-slots = omega (arith, z.shape.extents, z.sound.few)

  pub read_fits : 3 * length (between l (l + n) (in_use s)) ≤ length out
  read_fits = let r = z.taken.room in omega (arith, ap length is_found)

  pub read-few : length (between l (l + n) (in_use s)) ≤ 16385
  read-few =
      let i = read-inside in
      omega (
        arith,
        few-pieces s.head.pages s.head.logical l (l + n) (in_use s) i.1 (omega arith) z.sound.rows,
        slots_length s.extent_words 0 s.head.used,
        z.sound.few,
        z.shape.sizes.m-high,
      )

  -- its answer
  pub read_answer : (k : ℕ) (o : List ℕ) → ListedPieces l n s k out o
      → outcome (said 0 (k ∷ []) s.head) s.extent_words s.block_words s.spare o ≡ call (Call.read l n out) s
  unfolding refusal
  read_answer k o p =
      view-accepts (reading l n out) s z.passes (k ∷ []) o
      (ap (λ (x : ℕ). x ∷ []) (p.pieces ∙ sym (ap length is_found))) (p.words ∙ ap (λ (es : List Extent). over (flat es) out) (sym is_found))
      ∙ sym (read_view l n out s)
