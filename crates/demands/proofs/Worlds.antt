-- A history at the device: each step of it leaves a storable device with its flash and its lines, and the host may do what is listed.
use Rattle.std.specs.Prelude.{ℕ, ◌+◌, ◌*◌, ◌≤◌, ◌<◌, cond, ◌≡◌, refl, eqb, length, get_or, drop, set, replicate}
use Rattle.std.proofs.Common.{sym, ◌∙◌, subst, arith, eq-eqb, ne_eqb, length-set}
use Rattle.std.proofs.Math.Path.{ap}
use mathlib.Core.List.{List, [], ◌∷◌, ◌++◌}
use Rattle.std.proofs.Math.Logic.{by_cases}
use Rattle.std.proofs.Math.Decide.{ℕ_discrete}
use Rattle.std.proofs.lemmas.List.Edits.{sets}
use Rattle.std.proofs.Math.Seq.{length-sets, take-append_seam}
use Rattle.rules.specs.Counting.{tabulate}
use Rattle.rules.specs.Extents.{none, flat}
use Rattle.rules.specs.Lent.{Lent}
use Rattle.rules.specs.Device.{Device, lines, at, valid, head_of, words_of}
use Rattle.rules.specs.Placement.{targets, puts, places, pieces}
use Rattle.rules.specs.Request.{with_table, numbered, written, trimmed}
use Rattle.rules.specs.Reclaim.{victim, sources, reclaimed_at, reclaimed}
use Rattle.rules.specs.Answers.{Outcome}
use Rattle.rules.specs.Calls.{Call, refusal, counts, leaves, lists, over, refused, accepted, plain_call, encoded, call}
use Rattle.rules.specs.declared.Head.{Head}
use Rattle.laws.specs.Cells.{length-tabulate, tabulate-same}
use Rattle.laws.specs.Slots.{slots-flat}
use Rattle.laws.specs.Device.{SoundDevice}
use Rattle.laws.specs.Placed.{places_lt}
use Rattle.laws.specs.Order.{length-targets, targets_open, length-placed}
use Rattle.laws.specs.Reclaimed.{length-sources, few-sources}
use Rattle.laws.specs.Gains.{victim-chosen}
use Rattle.demands.specs.Flash.{Cell, erased, Seen, hole, see, contents}
use Rattle.demands.proofs.Shows.{vacate, vacate-ready}
use Rattle.laws.specs.Sound.{Storable}
use Rattle.laws.specs.Calls.{call_plain}
use Rattle.demands.specs.Host.{Ask, Op, programs, copies, to_do, ops, does, doing, marks, marking, AllAllowed, shown, reads, World, step, run, Programs}
use Rattle.demands.proofs.ReadBack.{read-passes, read_one-lists}
use Rattle.laws.specs.Kept.{Taken, refusal-taken, keeps}
use Rattle.demands.proofs.Listed.{doing_append, marking_append, allowed_append, writes, programs-runs, writes-does, writes-marks, writes-allowed, copies-does, copies-marks, copies-allowed}
use Rattle.demands.proofs.Agrees.{Agrees, filled_up, cells, agrees-write, agrees-trim, agrees-reclaim}

-- ---- the outcome of an accepted call, and of a refused one

pub plain_accepted : (c : Call) (d : Device) → refusal c d ≡ 0 → plain_call c d ≡ accepted c d
unfolding plain_call
plain_accepted c d e = rw (eq-eqb (refusal c d) 0 e)

pub plain_refused : (c : Call) (d : Device) → (refusal c d ≡ 0 → ⊥) → plain_call c d ≡ refused (refusal c d) c d
unfolding plain_call
plain_refused c d e = rw (ne_eqb (refusal c d) 0 e)

-- ---- what the host then does

-- by an accepted call's answer
unfoldable pub tasks : Call → List ℕ → Device → List Op
tasks c xs d = to_do c xs (head_of d) (encoded (accepted c d))

tasks-write : (k l n : ℕ) (out xs : List ℕ) (d : Device) → SoundDevice d → Taken (Call.write k l n out) d → tasks (Call.write k l n out) xs d ≡ writes (places l n d) (filled_up n xs)
unfolding tasks to_do encoded accepted counts lists over pieces places
tasks-write k l n out xs d s t =
    let ps = places l n d in
    let bs = targets l n d in
    let z = length-targets l n d in
    ap (programs l xs) (slots-flat (pieces l n d) (drop (length (flat (pieces l n d))) out))
    ∙ programs-runs d.pages l 0 l xs ps (omega arith)
    (λ j h e. omega (arith, places_lt l bs d s (targets_open l n d t.pages) (omega (arith, t.range.inside)) j (omega (arith, length-placed l n d))))
    ∙ ap (λ (m : ℕ). writes ps (tabulate m (λ j. get_or xs (0 + j) 0))) (length-placed l n d)
    ∙ ap (writes ps) (tabulate-same n (λ j. get_or xs (0 + j) 0) (λ j. get_or xs j 0) (λ j h. let g : 0 + j ≡ j = omega arith in ap (λ (x : ℕ). get_or xs x 0) g))

tasks-reclaim : (out xs : List ℕ) (d : Device) → tasks (Call.reclaim out) xs d ≡ copies (d.reserve * d.pages) (sources (victim d) d) ++ Op.erase (victim d) ∷ []
unfolding tasks to_do encoded accepted counts lists leaves over head_of words_of reclaimed reclaimed_at
tasks-reclaim out xs d =
    let ps = sources (victim d) d in
    ap (λ (qs : List ℕ). copies (d.reserve * d.pages) qs ++ Op.erase (victim d) ∷ []) (take-append_seam ps (drop (length ps) out))

-- it keeps the device, its flash and its lines together, and is allowed
pub record Served (c : Call) (xs : List ℕ) (d : Device) (f : List Cell) (t : List Seen) (os : List Op) : Type 0 where
  pub agrees : Agrees (leaves c d) (doing d.pages os f) (shown c xs t)
  pub marks : marking d.pages os d.fills ≡ (leaves c d).fills
  pub allowed : AllAllowed d.pages os f d.fills

served-write : (k l n : ℕ) (out xs : List ℕ) (d : Device) (f : List Cell) (t : List Seen) → SoundDevice d → Agrees d f t → Taken (Call.write k l n out) d
    → Served (Call.write k l n out) xs d f t (writes (places l n d) (filled_up n xs))
unfolding leaves shown written numbered with_table puts places
served-write k l n out xs d f t s a h =
    let bs = targets l n d in
    let z = length-targets l n d in
    let y = length-tabulate n (λ i. get_or xs i 0) in
    let v = targets_open l n d h.pages in
    record {
      agrees = rw (writes-does d.pages (places l n d) (filled_up n xs) f) (agrees-write k l n xs d f t s a h.range.inside h.pages);
      marks = writes-marks l bs (filled_up n xs) d v (omega arith);
      allowed = writes-allowed l bs (filled_up n xs) d f s a.clean v (omega (arith, h.range.inside));
    }

served-reclaim : (out xs : List ℕ) (d : Device) (f : List Cell) (t : List Seen) → SoundDevice d → Agrees d f t → Taken (Call.reclaim out) d
    → Served (Call.reclaim out) xs d f t (copies (d.reserve * d.pages) (sources (victim d) d) ++ Op.erase (victim d) ∷ [])
unfolding leaves shown reclaimed reclaimed_at vacate doing does marking marks
served-reclaim out xs d f t s a h =
    let n = d.pages in
    let r = d.reserve in
    let v = victim d in
    let ps = sources v d in
    let c = victim-chosen d s h.gains in
    let last : List Op = Op.erase v ∷ [] in
    let at : r * n ≡ r * n + 0 = omega arith in
    let few : 0 + length ps ≤ n = omega (arith, few-sources d s v c.inside c.other) in
    let all : 0 + length ps ≡ valid d v = omega (arith, length-sources d s v c.inside c.other) in
    let did : doing n (copies (r * n) ps ++ last) f ≡ vacate v d f =
    doing_append n (copies (r * n) ps) last f ∙ ap (λ (g : List Cell). sets g (v * n) (replicate n erased)) (copies-does n (r * n) ps f) in
    let marked = copies-marks n r 0 (r * n) ps d.fills at s.kept s.empty few in
    record {
      agrees = subst (λ (g : List Cell). Agrees (reclaimed d) g t) (sym did) (agrees-reclaim d f t s a h.gains);
      marks = marking_append n (copies (r * n) ps) last d.fills ∙ ap (λ (m : List ℕ). set m v 0) (marked ∙ ap (set d.fills r) all);
      allowed = allowed_append n (copies (r * n) ps) last f d.fills
          (copies-allowed n r 0 (r * n) ps d.fills f at s.kept s.empty few (vacate-ready d s f a.clean v c.inside c.other))
          (rw marked (omega (arith, length-set d.fills r (0 + length ps), c.inside)), tt);
    }

pub served : (c : Call) (xs : List ℕ) (d : Device) (f : List Cell) (t : List Seen) → Storable d → Agrees d f t → Taken c d → Served c xs d f t (tasks c xs d)
unfolding tasks to_do leaves shown trimmed with_table doing marking
served (Call.write k l n out) xs d f t g a h =
    subst (Served (Call.write k l n out) xs d f t) (sym (tasks-write k l n out xs d g.sound h)) (served-write k l n out xs d f t g.sound a h)
served (Call.trim k l n) xs d f t g a h = record { agrees = agrees-trim k l n d f t a h.range.inside; marks = refl; allowed = tt }
served (Call.read l n out) xs d f t g a h = record { agrees = a; marks = refl; allowed = tt }
served (Call.reclaim out) xs d f t g a h =
    subst (Served (Call.reclaim out) xs d f t) (sym (tasks-reclaim out xs d)) (served-reclaim out xs d f t g.sound a h)
served Call.report xs d f t g a h = record { agrees = a; marks = refl; allowed = tt }

-- ---- a step

-- a device with its flash and its lines, as a world
abbrev pub world : Device → List Cell → List Seen → World
world d f t = record { state = words_of d; flash = f; programmed = d.fills; table = t }

-- a step, given the call's outcome
unfoldable ops_by : Ask → Head → Outcome Lent → List Op
ops_by a h o = cond (eqb o.refusal 0) (to_do a.request a.contents h o) []

unfoldable step_by : Ask → World → Outcome Lent → World
step_by a w o =
    let h = w.state.head in
    record {
      state = o.after;
      flash = doing h.pages (ops_by a h o) w.flash;
      programmed = marking h.pages (ops_by a h o) w.programmed;
      table = cond (eqb o.refusal 0) (shown a.request a.contents w.table) w.table;
    }

shown-length : (c : Call) (xs : List ℕ) (t : List Seen) → length (shown c xs t) ≡ length t
unfolding shown
shown-length (Call.write k l n out) xs t = length-sets t l (cells n xs)
shown-length (Call.trim k l n) xs t = length-sets t l (replicate n hole)
shown-length (Call.read l n out) xs t = refl
shown-length (Call.reclaim out) xs t = refl
shown-length Call.report xs t = refl

-- a storable device with m lines, and a flash and lines that agree with it
pub record Faithful (m : ℕ) (w : World) : Type 0 where
  pub device : Device
  pub flash : List Cell
  pub table : List Seen
  pub is : w ≡ world device flash table
  pub storable : Storable device
  pub lines : lines device ≡ m
  pub agrees : Agrees device flash table

module _ (c : Call) (d : Device) (g : Storable d) where
  pub call-taken : refusal c d ≡ 0 → call c (words_of d) ≡ encoded (accepted c d)
  call-taken e = call_plain c d g ∙ ap encoded (plain_accepted c d e)

  pub words-refused : (refusal c d ≡ 0 → ⊥) → call c (words_of d) ≡ encoded (refused (refusal c d) c d)
  words-refused e = call_plain c d g ∙ ap encoded (plain_refused c d e)

-- a read of line l alone is accepted, and answers one piece: the line, its page or a hole, and 1
pub read_one : (d : Device) → Storable d → (l : ℕ) → l < lines d → let o = call (Call.read l 1 (replicate 3 0)) (words_of d) in (o.refusal ≡ 0) × (o.out ≡ l ∷ at d l ∷ 1 ∷ [])
unfolding encoded accepted over
read_one d g l h =
    let c = Call.read l 1 (replicate 3 0) in
    let e = call-taken c d g (read-passes l (replicate 3 0) d h (omega arith)) in (
      ap (λ (o : Outcome Lent). o.refusal) e,
      ap (λ (o : Outcome Lent). o.out) e ∙ ap (λ (ws : List ℕ). ws ++ drop (length ws) (replicate 3 0)) (read_one-lists l d h (replicate 3 0)),
    )

-- what line l reads as is what the device and its flash show
pub reads-contents : (d : Device) (f : List Cell) → Storable d → (l : ℕ) → l < lines d → reads (words_of d) f l ≡ contents d f l
unfolding reads contents
reads-contents d f g l h =
    let o = call (Call.read l 1 (replicate 3 0)) (words_of d) in
    let r = read_one d g l h in
    rw (eq-eqb o.refusal 0 r.0) (ap (λ (ws : List ℕ). see f (get_or ws 1 none)) r.1)

module _ (a : Ask) (d : Device) (f : List Cell) (t : List Seen) (g : Storable d) where
  step-taken : Agrees d f t → refusal a.request d ≡ 0
      → step a (world d f t) ≡ world (leaves a.request d) (doing d.pages (tasks a.request a.contents d) f) (shown a.request a.contents t)
  unfolding step ops ops_by step_by tasks encoded accepted words_of head_of
  step-taken r e =
      let v = served a.request a.contents d f t g r (refusal-taken a.request d e) in
      ap (step_by a (world d f t)) (call-taken a.request d g e)
      ∙ ap (λ (m : List ℕ). record {
        state = words_of (leaves a.request d);
        flash = doing d.pages (tasks a.request a.contents d) f;
        programmed = m;
        table = shown a.request a.contents t;
      }) v.marks

  step-refused : (refusal a.request d ≡ 0 → ⊥) → step a (world d f t) ≡ world d f t
  unfolding step ops ops_by step_by encoded refused doing marking
  step-refused e =
      ap (step_by a (world d f t)) (words-refused a.request d g e)
      ∙ simp (ne_eqb (refusal a.request d) 0 e)

  step_with : Agrees d f t → Faithful (lines d) (step a (world d f t))
  step_with r =
      let c = a.request in
      by_cases (ℕ_discrete (refusal c d) 0)
      (λ e. let v = served c a.contents d f t g r (refusal-taken c d e) in
      record {
        device = leaves c d;
        flash = doing d.pages (tasks c a.contents d) f;
        table = shown c a.contents t;
        is = step-taken r e;
        storable = keeps c d g e;
        lines = sym v.agrees.size ∙ shown-length c a.contents t ∙ r.size;
        agrees = v.agrees;
      })
      (λ e. record { device = d; flash = f; table = t; is = step-refused e; storable = g; lines = refl; agrees = r })

  ops-taken : refusal a.request d ≡ 0 → ops a (words_of d) ≡ tasks a.request a.contents d
  unfolding ops ops_by tasks encoded accepted words_of head_of
  ops-taken e = ap (ops_by a (head_of d)) (call-taken a.request d g e)

  ops-refused : (refusal a.request d ≡ 0 → ⊥) → ops a (words_of d) ≡ []
  unfolding ops ops_by encoded refused words_of head_of
  ops-refused e = ap (ops_by a (head_of d)) (words-refused a.request d g e) ∙ simp (ne_eqb (refusal a.request d) 0 e)

  ops-allowed : Agrees d f t → AllAllowed d.pages (ops a (words_of d)) f d.fills
  ops-allowed r =
      let c = a.request in
      by_cases (ℕ_discrete (refusal c d) 0)
      (λ e. subst (λ (os : List Op). AllAllowed d.pages os f d.fills) (sym (ops-taken e)) (served c a.contents d f t g r (refusal-taken c d e)).allowed)
      (λ e. subst (λ (os : List Op). AllAllowed d.pages os f d.fills) (sym (ops-refused e)) tt)

-- ---- histories

pub step-holds : (m : ℕ) (a : Ask) (w : World) → Faithful m w → Faithful m (step a w)
step-holds m a w h =
    subst (λ (v : World). Faithful m (step a v)) (sym h.is)
    (subst (λ (x : ℕ). Faithful x (step a (world h.device h.flash h.table))) h.lines (step_with a h.device h.flash h.table h.storable h.agrees))

pub step-allowed : (m : ℕ) (a : Ask) (w : World) → Faithful m w → AllAllowed w.state.head.pages (ops a w.state) w.flash w.programmed
unfolding words_of head_of
step-allowed m a w h =
    subst (λ (v : World). AllAllowed v.state.head.pages (ops a v.state) v.flash v.programmed) (sym h.is)
    (ops-allowed a h.device h.flash h.table h.storable h.agrees)

pub run_holds : (m : ℕ) (asks : List Ask) (w : World) → Faithful m w → Faithful m (run asks w)
unfolding run
run_holds m [] w h = h
run_holds m (a ∷ asks) w h = run_holds m asks (step a w) (step-holds m a w h)

pub run-programs : (m : ℕ) (asks : List Ask) (w : World) → Faithful m w → Programs asks w
run-programs m [] w h = tt
run-programs m (a ∷ asks) w h = (step-allowed m a w h, run-programs m asks (step a w) (step-holds m a w h))

pub holds-reads : (m : ℕ) (w : World) → Faithful m w → (l : ℕ) → l < m → reads w.state w.flash l ≡ get_or w.table l hole
holds-reads m w h l k =
    subst (λ (v : World). reads v.state v.flash l ≡ get_or v.table l hole) (sym h.is)
    (reads-contents h.device h.flash h.storable l (omega (arith, h.lines)) ∙ h.agrees.says l)
