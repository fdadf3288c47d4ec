-- Demand 1, proved: the refusals of a call are those of the paper's table in the paper's order, and a refused call leaves everything.
use Rattle.std.specs.Prelude.{ℕ, ◌+◌, ◌*◌, Bool, true, false, cond, ◌&&◌, ◌||◌, ◌≡◌, List, [], ◌∷◌, leb, length, get_or, drop}
use Rattle.std.proofs.Math.Path.{refl, ap}
use Rattle.std.proofs.Common.{sym, ap₂, ◌∙◌, subst, arith, eq-eqb}
use Rattle.std.proofs.Math.Dec.{eqb, ltb}
use Rattle.std.proofs.Math.Seq.{drop-append_seam}
use Rattle.rules.specs.Extents.{flat}
use Rattle.rules.specs.declared.Extent.{Extent}
use Rattle.rules.specs.Lent.{Lent}
use Rattle.rules.specs.Shape.{sizes, lengths, shape}
use Rattle.rules.specs.Device.{Device, free, live, stale, extents, device_of}
use Rattle.rules.specs.Placement.{targets, puts, pieces}
use Rattle.rules.specs.Read.{found}
use Rattle.rules.specs.Request.{applied, judged, with_table, numbered, written, trimmed}
use Rattle.rules.specs.Answers.{Outcome, number, refuse}
use Rattle.rules.specs.Calls.{Call, outside, too_many, write_refusal, trim_refusal, read_refusal, reclaim_refusal}
use Rattle.rules.specs.Calls.{refusal, counts, leaves, lists, buffer, over, zeros, refused, tested, verdict, accepted_on, call, from_sizes, fresh}
use Rattle.rules.specs.declared.Refusal.{Refusal}
use Rattle.laws.specs.Bools.{cases, and_split}
use Rattle.laws.specs.Cells.{replicate-at}
use Rattle.laws.specs.Shapes.{sizes-true}
use Rattle.laws.specs.FreshWords.{fresh-words}
use Rattle.laws.specs.Slots.{flat-length}
use Rattle.laws.specs.Placed.{puts-slots}
use Rattle.laws.specs.States.{device-lines}
use Rattle.laws.specs.Kept.{call-verdict}
use Rattle.laws.specs.Makes.{make-accepts, make-refuses}
use Rattle.demands.specs.Demand1.{order, given, first_given, Untouched, Answers, FreshAnswers}

-- ---- the table

or_none : (a : Bool) → a ≡ (a || false)
or_none true = refl
or_none false = refl

-- row by row: the same test, then the same rows
row : (r : Refusal) {a b : Bool} {x y : ℕ} → a ≡ b → x ≡ y → refuse a r x ≡ cond b (number r) y
unfolding refuse
row r e f = ap₂ (λ (t : Bool) (later : ℕ). cond t (number r) later) e f

module _ (s : Lent) where
  abbrev d : Device
  d = device_of s

  -- 3
  in_lines : (l n : ℕ) → outside l n d ≡ (eqb n 0 || ltb s.head.logical (l + n))
  unfolding outside
  in_lines l n = ap (λ (top : ℕ). eqb n 0 || ltb top (l + n)) (device-lines s)

  ranged : (l n : ℕ) → outside l n d ≡ (eqb n 0 || ltb s.head.logical (l + n) || false)
  ranged l n = in_lines l n ∙ or_none (eqb n 0 || ltb s.head.logical (l + n))

  ranged-write : (l n : ℕ) → (outside l n d || ltb d.pages n) ≡ (eqb n 0 || ltb s.head.logical (l + n) || ltb s.head.pages n)
  unfolding device_of
  ranged-write l n = ap (λ (t : Bool). t || ltb s.head.pages n) (in_lines l n)

  -- 4
  number_row : (k : ℕ) {x y : ℕ} → x ≡ y → judged k d x ≡ cond (leb k s.head.last.number) (number Refusal.Applied) y
  unfolding judged applied device_of
  number_row k e = row Refusal.Applied refl e

  -- 6
  many-write : (k l n : ℕ) → too_many (puts l n d) ≡ ltb s.head.slots (length (extents (written k l n d)))
  unfolding too_many puts written numbered with_table extents device_of
  many-write k l n = ap (λ (m : ℕ). ltb m (length (extents (puts l n d)))) (puts-slots l (targets l n d) d)

  many-trim : (k l n : ℕ) → too_many (trimmed k l n d) ≡ ltb s.head.slots (length (extents (trimmed k l n d)))
  unfolding too_many trimmed with_table device_of
  many-trim k l n = refl

  -- 7: three words a piece
  short : (out : List ℕ) (es : List Extent) → ltb (length out) (3 * length es) ≡ ltb (length out) (length (flat es))
  short out es = ap (ltb (length out)) (sym (flat-length es))

  pub first_applies : (c : Call) → verdict c s ≡ first_given (order c) (given c s)
  unfolding tested refusal write_refusal trim_refusal read_refusal reclaim_refusal first_given leaves lists
  first_applies (Call.write k l n out) =
      row Refusal.Shape refl (row Refusal.Damaged refl (row Refusal.Range (ranged-write l n) (number_row k
      (row Refusal.NoPages refl (row Refusal.NoNodes (many-write k l n) (row Refusal.OutShort (short out (pieces l n d)) refl))))))
  first_applies (Call.trim k l n) =
      row Refusal.Shape refl (row Refusal.Damaged refl (row Refusal.Range (ranged l n) (number_row k (row Refusal.NoNodes (many-trim k l n) refl))))
  first_applies (Call.read l n out) =
      row Refusal.Shape refl (row Refusal.Damaged refl (row Refusal.Range (ranged l n) (row Refusal.OutShort (short out (found l n d)) refl)))
  first_applies (Call.reclaim out) =
      row Refusal.Shape refl (row Refusal.Damaged refl (row Refusal.NothingStale refl (row Refusal.OutShort refl refl)))
  first_applies Call.report = row Refusal.Shape refl (row Refusal.Damaged refl refl)

-- ---- a call

all-zero : (c : Call) (i : ℕ) → get_or (zeros c) i 0 ≡ 0
all-zero (Call.write k l n out) i = replicate-at {A = ℕ} 0 1 i
all-zero (Call.trim k l n) i = replicate-at {A = ℕ} 0 0 i
all-zero (Call.read l n out) i = replicate-at {A = ℕ} 0 1 i
all-zero (Call.reclaim out) i = replicate-at {A = ℕ} 0 1 i
all-zero Call.report i = replicate-at {A = ℕ} 0 3 i

untouched : (c : Call) (s : Lent) (b : Bool) → ((cond b (accepted_on c s) (refused (verdict c s) c s)).refusal ≡ 0 → ⊥) → Untouched c s (cond b (accepted_on c s) (refused (verdict c s) c s))
unfolding accepted_on refused
untouched c s true h = absurd (h refl)
untouched c s false h = record { counts = all-zero c; after = refl; out = refl }

pub refused-untouched : (c : Call) (s : Lent) → ((call c s).refusal ≡ 0 → ⊥) → Untouched c s (call c s)
unfolding call
refused-untouched c s h = untouched c s (eqb (verdict c s) 0) h

accepted-on : (c : Call) (s : Lent) → (call c s).refusal ≡ 0 → call c s ≡ accepted_on c s
unfolding call
accepted-on c s e = rw (eq-eqb (verdict c s) 0 (sym (call-verdict c s) ∙ e))

beyond : (c : Call) (s : Lent) → drop (length (lists c (device_of s))) (accepted_on c s).out ≡ drop (length (lists c (device_of s))) (buffer c)
unfolding accepted_on over
beyond c s = let ws = lists c (device_of s) in drop-append_seam ws (drop (length ws) (buffer c))

pub answers : (c : Call) (s : Lent) → Answers c s (call c s)
answers c s = record {
  refusal = call-verdict c s ∙ first_applies s c;
  refused = refused-untouched c s;
  accepted = accepted-on c s;
  rest = λ e. ap (λ (o : Outcome Lent). drop (length (lists c (device_of s))) o.out) (accepted-on c s e) ∙ beyond c s;
}

pub reports : (s : Lent) → (call Call.report s).refusal ≡ 0 → (call Call.report s).counts ≡ free (device_of s) ∷ live (device_of s) ∷ stale (device_of s) ∷ []
unfolding accepted_on counts
reports s e = ap (λ (o : Outcome Lent). o.counts) (accepted-on Call.report s e)

-- ---- fresh

pub fresh-answers : (b n l m : ℕ) (es bs ss : List ℕ) → FreshAnswers b n l m es bs ss (fresh b n l m es bs ss)
unfolding fresh shape refuse
fresh-answers b n l m es bs ss =
    let size = sizes b n l m in
    let fit = lengths b n m (length es) (length bs) (length ss) in
    cases (size && fit)
    (λ e. subst (FreshAnswers b n l m es bs ss) (make-accepts (from_sizes b n l m) es bs ss (rw e) _ refl) (record {
      refusal = rw e;
      refused = λ h. absurd (h refl);
      accepted = λ h. sym (fresh-words b n l m (sizes-true b n l m (and_split size fit e).0));
      counts = refl;
      out = refl;
    }))
    (λ e. subst (FreshAnswers b n l m es bs ss) (make-refuses (from_sizes b n l m) es bs ss (number Refusal.Shape) (λ z. omega arith) (rw e)) (record {
      refusal = rw e;
      refused = λ h. refl;
      accepted = λ h. absurd (omega arith);
      counts = refl;
      out = refl;
    }))
