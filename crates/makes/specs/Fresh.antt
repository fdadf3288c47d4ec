-- What fresh answers, of the words that it leaves.
use Rattle.std.specs.Prelude.{ℕ, ◌-◌, ◌≤◌, ◌≡◌, List, [], true, false, length}
use Rattle.std.proofs.Math.Path.{ap}
use Rattle.std.proofs.Common.{◌∙◌, arith}
use Rattle.std.proofs.Math.Bool.{not}
use Rattle.std.proofs.Math.ListN.{replicate}
use Rattle.rules.specs.Extents.{none}
use Rattle.rules.specs.Lent.{lent}
use Rattle.rules.specs.Shape.{shape}
use Rattle.rules.specs.Answers.{said, outcome}
use Rattle.rules.specs.Calls.{sizes_only, from_sizes, fresh}
use Rattle.rules.specs.declared.Head.{Head}
use Rattle.rules.specs.declared.Refusal.{Refusal}
use Rattle.laws.specs.Shapes.{shape-true}
use Rattle.laws.specs.FreshWords.{fresh-words}
use Rattle.laws.specs.Makes.{make-accepts, make-refuses}
use Rattle.laws.specs.Refused.{refuse_here, refuse_later}

module _ (b n l m : ℕ) (extents blocks spare : List ℕ) where
  pub fresh-refused : shape (sizes_only b n l m) (length extents) (length blocks) (length spare) ≡ false
      → outcome (said 1 [] (sizes_only b n l m)) extents blocks spare [] ≡ fresh b n l m extents blocks spare
  unfolding fresh
  fresh-refused e = make-refuses (from_sizes b n l m) extents blocks spare 1 (λ z. omega arith) (refuse_here _ Refusal.Shape 0 (ap not e))

  -- the head of the sizes, with a reserve
  abbrev pub reserved : Head → ℕ → Head
  reserved h r = record { blocks = h.blocks; pages = h.pages; logical = h.logical; slots = h.slots; used = h.used; reserve = r; last = h.last }

  pub fresh-made : shape (sizes_only b n l m) (length extents) (length blocks) (length spare) ≡ true → (h : Head) (x y z : List ℕ)
      → h ≡ sizes_only b n l m → x ≡ replicate (length extents) 0 → y ≡ replicate (length blocks) 0 → z ≡ replicate (length spare) none
      → outcome (said 0 [] (reserved h (b - 1))) x y z [] ≡ fresh b n l m extents blocks spare
  unfolding fresh
  fresh-made e h x y z g p q r =
      let f = shape-true (sizes_only b n l m) (length extents) (length blocks) (length spare) e in
      make-accepts (from_sizes b n l m) extents blocks spare (refuse_later _ Refusal.Shape 0 (ap not e)) (lent (reserved h (b - 1)) x y z)
      ((λ i. lent (reserved (g i) (b - 1)) ((p ∙ ap (λ (k : ℕ). replicate k 0) f.extents-is) i) ((q ∙ ap (λ (k : ℕ). replicate k 0) f.blocks_is) i)
      ((r ∙ ap (λ (k : ℕ). replicate k none) f.spare-is) i))
      ∙ fresh-words b n l m f.sizes)

  pub fresh-some : shape (sizes_only b n l m) (length extents) (length blocks) (length spare) ≡ true → 1 ≤ b
  fresh-some e = omega (arith, (shape-true (sizes_only b n l m) (length extents) (length blocks) (length spare) e).sizes.b-low)
