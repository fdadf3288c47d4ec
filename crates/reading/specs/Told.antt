-- Pieces laid into the answer buffer, one after the other, until all are there.
use Rattle.std.specs.Prelude.{ℕ, suc, ◌+◌, ◌*◌, ◌≤◌, ◌≡◌, refl, List, [], ◌∷◌, ◌++◌, length, drop, set}
use Rattle.std.proofs.Common.{sym, ap, ◌∙◌, append_assoc, append-nil, arith, length-append}
use Rattle.std.proofs.lemmas.List.Edits.{sets, sets-eq}
use Rattle.rules.specs.Extents.{flat, put_slot}
use Rattle.rules.specs.Calls.{over}
use Rattle.rules.specs.declared.Extent.{Extent}
use Rattle.laws.specs.Slots.{flat-length, flat_append, put_slot_sets}

-- in the buffer's slots from k on
unfoldable pub laid_from : ℕ → List Extent → List ℕ → List ℕ
laid_from k es out = sets out (3 * k) (flat es)

pub laid_none : (k : ℕ) (out : List ℕ) → laid_from k [] out ≡ out
unfolding laid_from flat
laid_none k out = refl

-- one piece, as it is stored
laid_one : (k : ℕ) (e : Extent) (out : List ℕ) → put_slot out k e ≡ laid_from k (e ∷ []) out
unfolding laid_from
laid_one k e out = put_slot_sets out k e

sets_append : (us vs l : List ℕ) (i : ℕ) → sets l i (us ++ vs) ≡ sets (sets l i us) (i + length us) vs
sets_append [] vs l i = let e : i ≡ i + 0 = omega arith in ap (λ (k : ℕ). sets l k vs) e
sets_append (u ∷ us) vs l i =
    let e : suc i + length us ≡ i + suc (length us) = omega arith in
    sets_append us vs (set l i u) (suc i) ∙ ap (λ (k : ℕ). sets (sets (set l i u) (suc i) us) k vs) e

pub laid_append : (k j : ℕ) (xs ys : List Extent) (out : List ℕ) → j ≡ k + length xs → laid_from k (xs ++ ys) out ≡ laid_from j ys (laid_from k xs out)
unfolding laid_from
laid_append k j xs ys out h =
    let e : 3 * k + length (flat xs) ≡ 3 * j = omega (arith, flat-length xs) in
    ap (sets out (3 * k)) (flat_append xs ys) ∙ sets_append (flat xs) (flat ys) out (3 * k) ∙ ap (λ (i : ℕ). sets (sets out (3 * k) (flat xs)) i (flat ys)) e

-- ---- pieces laid out one after the other: ys are in the buffer's first k slots, and rest are still to come

pub record Told (total : List Extent) (out₀ : List ℕ) (ys rest : List Extent) (k : ℕ) (out : List ℕ) : Type 0 where
  pub room : 3 * length total ≤ length out₀
  pub all : ys ++ rest ≡ total
  pub next : k ≡ length ys
  pub is : out ≡ laid_from 0 ys out₀

pub told-start : (total : List Extent) (out : List ℕ) → 3 * length total ≤ length out → Told total out [] total 0 out
told-start total out f = record { room = f; all = refl; next = refl; is = sym (laid_none 0 out) }

module _ (total : List Extent) (out₀ : List ℕ) (ys rest rest' : List Extent) (k : ℕ) (out : List ℕ) (h : Told total out₀ ys rest k out) where
  pub told-more : (x : Extent) (out' : List ℕ) → rest ≡ x ∷ rest' → out' ≡ put_slot out k x → Told total out₀ (ys ++ x ∷ []) rest' (k + 1) out'
  told-more x out' e g = record {
    room = h.room;
    all = append_assoc ys (x ∷ []) rest' ∙ ap (λ (es : List Extent). ys ++ es) (sym e) ∙ h.all;
    next = omega (arith, h.next, length-append ys (x ∷ []));
    is = g ∙ laid_one k x out ∙ ap (laid_from k (x ∷ [])) h.is ∙ sym (laid_append 0 k ys (x ∷ []) out₀ (omega (arith, h.next)));
  }

  -- none is left, and the answer is whole
  pub told-end : rest ≡ [] → (k ≡ length total) × (out ≡ over (flat total) out₀)
  unfolding over laid_from
  told-end e =
      let whole : ys ≡ total = sym (append-nil ys) ∙ ap (λ (es : List Extent). ys ++ es) (sym e) ∙ h.all in
      let n : 0 + length (flat total) ≡ length (flat total) = omega arith in (
        h.next ∙ ap length whole,
        h.is ∙ ap (λ (es : List Extent). laid_from 0 es out₀) whole ∙ sets-eq (flat total) out₀ 0 (omega (arith, h.room, flat-length total)) ∙ ap (λ (j : ℕ). flat total ++ drop j out₀) n,
      )
