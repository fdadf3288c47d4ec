-- The double refund, proved: what a used-up number does to a request, and the repeats left out.
use Prim.Native.Nat.{ℕ, ◌+◌, ◌/◌, ◌≤◌, ◌<◌}
use Rattle.std.proofs.Math.Bool.{Bool, false, not, cond}
use Rattle.std.specs.Prelude.{true, ◌&&◌, ◌||◌, ◌≡◌, refl, List, [], ◌∷◌, ltb, leb, get_or}
use Rattle.std.proofs.lemmas.Bool.{false≢true}
use Rattle.std.proofs.Common.{sym, ◌∙◌, subst, arith}
use Rattle.std.proofs.Math.Path.{ap}
use borrow.Author.Tests.{ne_eqb, eqb-true, le-leb, leb-true}
use Rattle.std.proofs.Math.Dec.{eqb}
use Rattle.rules.specs.Extents.{none}
use Rattle.rules.specs.Lent.{Lent, valid_of}
use Rattle.rules.specs.Shape.{shaped}
use Rattle.rules.specs.Sound.{sound}
use Rattle.rules.specs.Device.{Device, blocks, lines, at, mapped, valid, device_of, head_of, words_of}
use Rattle.rules.specs.Placement.{targets, puts, places_at}
use Rattle.rules.specs.Request.{used_up, with_table, numbered, written, trimmed}
use Rattle.rules.specs.Answers.{number, refuse}
use Rattle.rules.specs.Calls.{Call, refusal, leaves, call}
use Rattle.rules.specs.declared.Refusal.{Refusal}
use Rattle.laws.specs.Bools.{cases, and_split}
use Rattle.laws.specs.Sums.{count-within}
use Rattle.laws.specs.Cells.{sets_other}
use Rattle.laws.specs.Sound.{Storable}
use Rattle.laws.specs.Placed.{puts-table, length-places}
use Rattle.laws.specs.Order.{puts-all, length-targets}
use Rattle.laws.specs.Lines.{trimmed-lines, trimmed-other}
use Rattle.laws.specs.Gains.{reclaim-all}
use Rattle.laws.specs.States.{device-lines, device-blocks, words-device, words-valid}
use Rattle.laws.specs.Refused.{refuse_none}
use Rattle.laws.specs.Kept.{refusal-taken, keeps, device-storable, device-is, accepted_in, accepted-sound}
use Rattle.demands.specs.Flash.{Cell}
use Rattle.demands.specs.Host.{Ask, ops, doing, marking, World, step, run, begin}
use Rattle.demands.specs.Requests.{carries, is_write, number_of, start_of, count_of, again}
use Rattle.demands.specs.Demand1.{order, given, first_given}
use Rattle.demands.specs.Once.{Nothing, repeats, noted, once, held, AppliedOnce}
use Rattle.demands.proofs.Refusals.{refused-untouched, answers}
use Rattle.demands.proofs.Steps.{either, leaves-pages, call-pages, call-last}

-- ---- a refused request leaves the world

pub step_same : (a : Ask) (w : World) → ((call a.request w.state).refusal ≡ 0 → ⊥) → step a w ≡ w
unfolding step ops doing marking
step_same a w e =
    rw (ne_eqb (call a.request w.state).refusal 0 e)
    (ap (λ (s : Lent). record { state = s; flash = w.flash; programmed = w.programmed; table = w.table }) (refused-untouched a.request w.state e).after)

-- ---- the last number

pub run-last : (asks : List Ask) (w : World) → w.state.head.last.number ≤ (run asks w).state.head.last.number
unfolding run step
run-last [] w = omega arith
run-last (a ∷ asks) w = omega (arith, call-last a.request w.state, run-last asks (step a w))

leaves_number : (c : Call) (d : Device) → carries c ≡ true → (leaves c d).last.number ≡ number_of c
unfolding leaves written numbered with_table trimmed
leaves_number (Call.write k l n out) d e = refl
leaves_number (Call.trim k l n) d e = refl
leaves_number (Call.read l n out) d e = absurd (false≢true e)
leaves_number (Call.reclaim out) d e = absurd (false≢true e)
leaves_number Call.report d e = absurd (false≢true e)

taken-newer : (c : Call) (d : Device) → carries c ≡ true → refusal c d ≡ 0 → d.last.number < number_of c
taken-newer (Call.write k l n out) d e t = (refusal-taken (Call.write k l n out) d t).newer
taken-newer (Call.trim k l n) d e t = (refusal-taken (Call.trim k l n) d t).newer
taken-newer (Call.read l n out) d e t = absurd (false≢true e)
taken-newer (Call.reclaim out) d e t = absurd (false≢true e)
taken-newer Call.report d e t = absurd (false≢true e)

module _ (c : Call) (s : Lent) (n : carries c ≡ true) where
  -- an accepted one sets the last number to its own
  pub accepted-last : (call c s).refusal ≡ 0 → (call c s).after.head.last.number ≡ number_of c
  unfolding words_of head_of
  accepted-last e = ap (λ (t : Lent). t.head.last.number) (accepted_in c s e).after ∙ leaves_number c (device_of s) n

  -- one whose number is not above it is not accepted, whatever the state is
  pub used-refused : number_of c ≤ s.head.last.number → (call c s).refusal ≡ 0 → ⊥
  unfolding device_of
  used-refused h e = omega (arith, taken-newer c (device_of s) n (accepted_in c s e).plainly)

-- ---- which refusal

abbrev Fine : Lent → Type 0
Fine s = (shaped s ≡ true) × (sound s ≡ true)

call_fine : (c : Call) (s : Lent) → Fine s → Fine (call c s).after
call_fine c s f = either c s (λ e. accepted-sound c s e) (λ e. subst Fine (sym (refused-untouched c s e).after) f)

run_fine : (asks : List Ask) (w : World) → Fine w.state → Fine (run asks w).state
unfolding run step
run_fine [] w f = f
run_fine (a ∷ asks) w f = run_fine asks (step a w) (call_fine a.request w.state f)

-- Range, and then the number
first-used : (c : Call) (s : Lent) → carries c ≡ true → Fine s → leb (number_of c) s.head.last.number ≡ true
    → first_given (order c) (given c s) ≡ cond (given c s Refusal.Range) (number Refusal.Range) (number Refusal.Applied)
unfolding first_given
first-used (Call.write k l n out) s e f h = rw (f.0, f.1, h)
first-used (Call.trim k l n) s e f h = rw (f.0, f.1, h)
first-used (Call.read l n out) s e f h = absurd (false≢true e)
first-used (Call.reclaim out) s e f h = absurd (false≢true e)
first-used Call.report s e f h = absurd (false≢true e)

used-refusal : (c : Call) (s : Lent) → carries c ≡ true → Fine s → number_of c ≤ s.head.last.number
    → (call c s).refusal ≡ cond (given c s Refusal.Range) (number Refusal.Range) (number Refusal.Applied)
used-refusal c s e f h = (answers c s).refusal ∙ first-used c s e f (le-leb (number_of c) s.head.last.number h)

nothing : (b : Ask) (v : World) → carries b.request ≡ true → Fine v.state → number_of b.request ≤ v.state.head.last.number → Nothing b v
unfolding used_up
nothing b v e f h =
    let r = used-refusal b.request v.state e f h in
    let n = used-refused b.request v.state e h in
    let same = step_same b v n in
    record {
      outside = λ t. r ∙ ap (λ (x : Bool). cond x (number Refusal.Range) (number Refusal.Applied)) t;
      inside = λ t. ap (λ (x : ℕ). eqb x (number Refusal.Applied)) (r ∙ ap (λ (x : Bool). cond x (number Refusal.Range) (number Refusal.Applied)) t);
      state = (refused-untouched b.request v.state n).after;
      out = (refused-untouched b.request v.state n).out;
      flash = ap (λ (w : World). w.flash) same;
      world = same;
    }

-- ---- the very same request

leaves_lines : (c : Call) (d : Device) → Storable d → refusal c d ≡ 0 → lines (leaves c d) ≡ lines d
unfolding leaves written numbered with_table
leaves_lines (Call.write k l n out) d g e = let t = refusal-taken (Call.write k l n out) d e in (puts-all l n d g.sound t.pages t.range.inside).lines
leaves_lines (Call.trim k l n) d g e = trimmed-lines k l n d
leaves_lines (Call.read l n out) d g e = refl
leaves_lines (Call.reclaim out) d g e = (reclaim-all d g.sound (refusal-taken (Call.reclaim out) d e).gains).lines
leaves_lines Call.report d g e = refl

leaves-blocks : (c : Call) (d : Device) → Storable d → refusal c d ≡ 0 → blocks (leaves c d) ≡ blocks d
unfolding leaves written numbered with_table trimmed
leaves-blocks (Call.write k l n out) d g e = let t = refusal-taken (Call.write k l n out) d e in (puts-all l n d g.sound t.pages t.range.inside).blocks
leaves-blocks (Call.trim k l n) d g e = refl
leaves-blocks (Call.read l n out) d g e = refl
leaves-blocks (Call.reclaim out) d g e = (reclaim-all d g.sound (refusal-taken (Call.reclaim out) d e).gains).blocks
leaves-blocks Call.report d g e = refl

call-lines : (c : Call) (s : Lent) → (call c s).after.head.logical ≡ s.head.logical
unfolding words_of head_of
call-lines c s =
    either c s
    (λ e. let a = accepted_in c s e in
    ap (λ (t : Lent). t.head.logical) a.after ∙ leaves_lines c (device_of s) (device-storable s a.shape a.whole) a.plainly ∙ device-lines s)
    (λ e. ap (λ (t : Lent). t.head.logical) (refused-untouched c s e).after)

run-range : (asks : List Ask) (w : World) (c : Call) → given c (run asks w).state Refusal.Range ≡ given c w.state Refusal.Range
unfolding run step
run-range [] w c = refl
run-range (a ∷ asks) w c =
    run-range asks (step a w) c
    ∙ ap (λ (top : ℕ). eqb (count_of c) 0 || ltb top (start_of c + count_of c) || (is_write c && ltb (step a w).state.head.pages (count_of c))) (call-lines a.request w.state)
    ∙ ap (λ (n : ℕ). eqb (count_of c) 0 || ltb w.state.head.logical (start_of c + count_of c) || (is_write c && ltb n (count_of c))) (call-pages a.request w.state)

again-range : (c : Call) (new : List ℕ) (s : Lent) → given (again c new) s Refusal.Range ≡ given c s Refusal.Range
again-range (Call.write k l n out) new s = refl
again-range (Call.trim k l n) new s = refl
again-range (Call.read l n out) new s = refl
again-range (Call.reclaim out) new s = refl
again-range Call.report new s = refl

again-carries : (c : Call) (new : List ℕ) → carries (again c new) ≡ carries c
again-carries (Call.write k l n out) new = refl
again-carries (Call.trim k l n) new = refl
again-carries (Call.read l n out) new = refl
again-carries (Call.reclaim out) new = refl
again-carries Call.report new = refl

again_number : (c : Call) (new : List ℕ) → number_of (again c new) ≡ number_of c
again_number (Call.write k l n out) new = refl
again_number (Call.trim k l n) new = refl
again_number (Call.read l n out) new = refl
again_number (Call.reclaim out) new = refl
again_number Call.report new = refl

-- an accepted write or trim is in range
first_range : (c : Call) (s : Lent) → carries c ≡ true → first_given (order c) (given c s) ≡ 0 → given c s Refusal.Range ≡ false
unfolding first_given refuse
first_range (Call.write k l n out) s e h =
    let a = refuse_none (given (Call.write k l n out) s Refusal.Shape) Refusal.Shape _ h in
    let b = refuse_none (given (Call.write k l n out) s Refusal.Damaged) Refusal.Damaged _ a.1 in
    (refuse_none (given (Call.write k l n out) s Refusal.Range) Refusal.Range _ b.1).0
first_range (Call.trim k l n) s e h =
    let a = refuse_none (given (Call.trim k l n) s Refusal.Shape) Refusal.Shape _ h in
    let b = refuse_none (given (Call.trim k l n) s Refusal.Damaged) Refusal.Damaged _ a.1 in
    (refuse_none (given (Call.trim k l n) s Refusal.Range) Refusal.Range _ b.1).0
first_range (Call.read l n out) s e h = absurd (false≢true e)
first_range (Call.reclaim out) s e h = absurd (false≢true e)
first_range Call.report s e h = absurd (false≢true e)

-- ---- the valid counts

module _ (d e : Device) (c : Call) (p : e.pages ≡ d.pages) (n : lines e ≡ lines d) (f : start_of c + count_of c ≤ lines d)
    (o : (j : ℕ) → (start_of c ≤ j → j < start_of c + count_of c → ⊥) → at e j ≡ at d j) where
  -- lines outside the range stay where they are
  lowered : (b : ℕ) → valid e b + held b c d ≡ valid d b + held b c e
  unfolding valid held mapped
  lowered b =
      let s : ℕ → Bool = λ j. not (eqb (at e j) none) && eqb (at e j / d.pages) b in
      let t : ℕ → Bool = λ j. not (eqb (at d j) none) && eqb (at d j / d.pages) b in
      rw (n, p) (count-within (lines d) (start_of c) (count_of c) s t f (λ j h. ap (λ (x : ℕ). not (eqb x none) && eqb (x / d.pages) b) (o j h)))

puts-other : (l n : ℕ) (d : Device) (j : ℕ) → (l ≤ j → j < l + n → ⊥) → at (puts l n d) j ≡ at d j
unfolding puts
puts-other l n d j h =
    let bs = targets l n d in
    ap (λ (t : List ℕ). get_or t j none) (puts-table l bs d)
    ∙ sets_other none (places_at l bs d) d.table l j (λ a b. h a (omega (arith, length-places l bs d, length-targets l n d)))

leaves-lowered : (c : Call) (d : Device) → Storable d → carries c ≡ true → refusal c d ≡ 0 → (b : ℕ) → valid (leaves c d) b + held b c d ≡ valid d b + held b c (leaves c d)
leaves-lowered (Call.write k l n out) d g e h =
    let c = Call.write k l n out in
    let t = refusal-taken c d h in
    lowered d (leaves c d) c (leaves-pages c d) (leaves_lines c d g h) t.range.inside (unfold leaves written numbered with_table in puts-other l n d)
leaves-lowered (Call.trim k l n) d g e h =
    let c = Call.trim k l n in
    let t = refusal-taken c d h in
    lowered d (leaves c d) c (leaves-pages c d) (leaves_lines c d g h) t.range.inside (unfold leaves in trimmed-other k l n d)
leaves-lowered (Call.read l n out) d g e h = absurd (false≢true e)
leaves-lowered (Call.reclaim out) d g e h = absurd (false≢true e)
leaves-lowered Call.report d g e h = absurd (false≢true e)

call-lowered : (c : Call) (s : Lent) → carries c ≡ true → (call c s).refusal ≡ 0 → (b : ℕ) → b < s.head.blocks
    → valid_of (call c s).after b + held b c (device_of s) ≡ valid_of s b + held b c (device_of (call c s).after)
call-lowered c s n e b h =
    let a = accepted_in c s e in
    let d = device_of s in
    let g = device-storable s a.shape a.whole in
    let x = leaves c d in
    let y = keeps c d g a.plainly in
    omega (
      arith,
      ap (λ (t : Lent). valid_of t b) a.after ∙ words-valid x b (omega (arith, leaves-blocks c d g a.plainly, device-blocks s)),
      ap (λ (t : Lent). valid_of t b) (sym (device-is s a.shape a.whole)) ∙ words-valid d b (omega (arith, device-blocks s)),
      ap (λ (t : Lent). held b c (device_of t)) a.after ∙ ap (held b c) (words-device x y),
      leaves-lowered c d g n a.plainly b,
    )

-- ---- the repeats left out

-- what repeats one of ks has a number that is not above the last
abbrev Known : List ℕ → World → Type 0
Known ks w = (c : Call) → repeats c ks ≡ true → (carries c ≡ true) × (number_of c ≤ w.state.head.last.number)

or_else : {C : Type 0} (a b : Bool) → (a || b) ≡ true → (a ≡ true → C) → (b ≡ true → C) → C
or_else true b e f g = f refl
or_else false b e f g = g e

known_more : (ks : List ℕ) (a : Ask) (w : World) → Known ks w → Known (noted a w ks) (step a w)
unfolding noted step
known_more ks a w f c h =
    let later : repeats c ks ≡ true → (carries c ≡ true) × (number_of c ≤ (step a w).state.head.last.number) =
    λ t. ((f c t).0, omega (arith, (f c t).1, call-last a.request w.state)) in
    let new = carries a.request && eqb (call a.request w.state).refusal 0 in
    cases new
    (λ t. let y = and_split (carries a.request) (eqb (call a.request w.state).refusal 0) t in
    let last = accepted-last a.request w.state y.0 (eqb-true (call a.request w.state).refusal 0 y.1) in
    or_else (carries c && leb (number_of c) (number_of a.request)) (repeats c ks) (unfold repeats in (rw t at h))
    (λ u. let z = and_split (carries c) (leb (number_of c) (number_of a.request)) u in
    (z.0, omega (arith, leb-true (number_of c) (number_of a.request) z.1)))
    later)
    (λ t. later (rw t at h))

leave_out : (ks : List ℕ) (asks : List Ask) (w : World) → Known ks w → run asks w ≡ run (once ks asks w) w
unfolding run once
leave_out ks [] w f = refl
leave_out ks (a ∷ rest) w f =
    cases (repeats a.request ks)
    (λ t. let k = f a.request t in
    rw t (ap (run rest) (step_same a w (used-refused a.request w.state k.0 k.1)) ∙ leave_out ks rest w f))
    (λ t. rw t (leave_out (noted a w ks) rest (step a w) (known_more ks a w f)))

-- ---- all of it

pub once_fine : (w : World) → Fine w.state → AppliedOnce w
unfolding step run
once_fine w f =
    let out : (asks : List Ask) → run asks w ≡ run (once [] asks w) w = λ asks. leave_out [] asks w (λ c h. absurd (unfold repeats in (false≢true h))) in
    record {
      rises = λ asks. run-last asks w;
      refuses = λ a b further n m e h.
          nothing b (run further (step a w)) m (run_fine further (step a w) (call_fine a.request w.state f))
          (omega (arith, accepted-last a.request w.state n e, run-last further (step a w)));
      same = λ a new further n e.
          let c = a.request in
          let v = run further (step a w) in
          let range : given (again c new) v.state Refusal.Range ≡ false =
          again-range c new v.state ∙ run-range (a ∷ further) w c ∙ first_range c w.state n (sym (answers c w.state).refusal ∙ e) in
          used-refusal (again c new) v.state (again-carries c new ∙ n) (run_fine further (step a w) (call_fine c w.state f))
          (omega (arith, again_number c new, accepted-last c w.state n e, run-last further (step a w)))
          ∙ ap (λ (t : Bool). cond t (number Refusal.Range) (number Refusal.Applied)) range;
      largest = λ a n h e. (nothing a w n f (omega arith)).inside;
      lowers = λ a n e. call-lowered a.request w.state n e;
      leaves = out;
      valid = λ asks b. ap (λ (v : World). valid_of v.state b) (out asks);
      counts = λ asks. ap (λ (v : World). (call Call.report v.state).counts) (out asks);
    }

pub begins-once : (s : Lent) → shaped s ≡ true → sound s ≡ true → (f : List Cell) (before : List Ask) → AppliedOnce (run before (begin s f))
unfolding begin
begins-once s z e f before = once_fine (run before (begin s f)) (run_fine before (begin s f) (z, e))
