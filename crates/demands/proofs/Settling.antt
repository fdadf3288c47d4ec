-- Demand 3, proved: the reclaims of `until` are those of `settle` on the device, each accepted; nothing is then stale, and the write passes.
use Rattle.std.specs.Prelude.{ℕ, zero, suc, ◌+◌, ◌*◌, ◌≤◌, ◌<◌, Bool, true, false, cond, ◌≡◌, refl, List, eqb, length, get_or}
use Rattle.std.proofs.Common.{sym, ◌∙◌, subst, ⊎_elim, arith, eq-eqb, ne_eqb}
use Rattle.std.proofs.Math.Path.{ap}
use Rattle.std.proofs.Math.Logic.{by_cases}
use Rattle.std.proofs.Math.Decide.{ℕ_discrete}
use Rattle.rules.specs.Lent.{Lent}
use Rattle.rules.specs.Shape.{shaped}
use Rattle.rules.specs.Sound.{sound}
use Rattle.rules.specs.Device.{Device, lines, stale, free, extents, device_of, head_of, words_of}
use Rattle.rules.specs.Placement.{targets, puts, places, pieces}
use Rattle.rules.specs.Reclaim.{victim, reclaimed}
use Rattle.rules.specs.Answers.{Outcome}
use Rattle.rules.specs.Calls.{Call, refusal, counts, leaves, lists, buffer, accepted, encoded, call}
use Rattle.rules.specs.declared.Last.{Last}
use Rattle.laws.specs.Placed.{puts-slots}
use Rattle.laws.specs.Order.{length-placed}
use Rattle.laws.specs.Reclaimed.{few-sources}
use Rattle.laws.specs.Gains.{stale_blocks, victim-chosen, reclaim-all}
use Rattle.demands.proofs.Settle.{settle, settle-done, settle-more, Settled, settle-ends, stale_blocks_lt, never_stuck}
use Rattle.demands.specs.Flash.{Cell, Seen, hole}
use Rattle.laws.specs.Sound.{Storable}
use Rattle.laws.specs.States.{words-device, storable-shaped, storable-sound}
use Rattle.laws.specs.Slots.{flat-length}
use Rattle.laws.specs.Runs.{runs-length}
use Rattle.laws.specs.Encoded.{reclaim-shrinks}
use Rattle.laws.specs.Kept.{WriteTaken, passes, keeps, device-storable, device-is}
use Rattle.laws.specs.Growth.{write-bound, write-lines}
use Rattle.demands.specs.Host.{shown, World, step, begin}
use Rattle.demands.specs.Demand3.{Asked, LongEnough, stale_of, reclaiming, later, until, times, Way, Roomy, Gains, Spares, Demand3}
use Rattle.demands.proofs.Worlds.{Faithful, call-taken, step-holds, holds-reads}
use Rattle.demands.proofs.Starts.{begin-holds}

-- ---- a reclaim, and the report

stale-words : (d : Device) → Storable d → stale_of (words_of d) ≡ stale d
unfolding stale_of encoded accepted counts refusal
stale-words d g = ap (λ (o : Outcome Lent). get_or o.counts 2 0) (call-taken Call.report d g refl)

-- what is long enough for the words of a device is so for the device
enough : (c : Call) (d : Device) → Storable d → LongEnough c (words_of d) → length (lists c d) ≤ length (buffer c)
enough c d g r = subst (λ (x : Device). length (lists c x) ≤ length (buffer c)) (words-device d g) r

module _ (out : List ℕ) (d : Device) (g : Storable d) (h : stale d ≡ 0 → ⊥) (r : LongEnough (Call.reclaim out) (words_of d)) where
  taken-reclaim : refusal (Call.reclaim out) d ≡ 0
  unfolding lists
  taken-reclaim = passes (Call.reclaim out) d (record { gains = omega arith; room = enough (Call.reclaim out) d g r })

  storable-reclaim : Storable (reclaimed d)
  unfolding leaves
  storable-reclaim = keeps (Call.reclaim out) d g taken-reclaim

  call-reclaim : call (Call.reclaim out) (words_of d) ≡ encoded (accepted (Call.reclaim out) d)
  call-reclaim = call-taken (Call.reclaim out) d g taken-reclaim

  step-reclaim : (w : World) → w.state ≡ words_of d → (step (reclaiming out) w).state ≡ words_of (reclaimed d)
  unfolding step encoded accepted leaves
  step-reclaim w e = ap (λ (s : Lent). (call (Call.reclaim out) s).after) e ∙ ap (λ (o : Outcome Lent). o.after) call-reclaim

  gains : (w : World) → w.state ≡ words_of d → Gains out w
  unfolding encoded accepted words_of head_of
  gains w e = record {
    accepted = ap (λ (s : Lent). (call (Call.reclaim out) s).refusal) e ∙ ap (λ (o : Outcome Lent). o.refusal) call-reclaim;
    used = rw (step-reclaim w e, e) (reclaim-shrinks d g.sound (omega arith));
  }

-- ---- until nothing is stale

until-done : (k : ℕ) (outs : ℕ → List ℕ) (w : World) → stale_of w.state ≡ 0 → until k outs w ≡ w
unfolding until
until-done zero outs w e = refl
until-done (suc k) outs w e = rw (eq-eqb (stale_of w.state) 0 e)

until-more : (k : ℕ) (outs : ℕ → List ℕ) (w : World) → (stale_of w.state ≡ 0 → ⊥) → until (suc k) outs w ≡ until k (later outs) (step (reclaiming (outs 0)) w)
unfolding until
until-more k outs w e = rw (ne_eqb (stale_of w.state) 0 e)

times-done : (k : ℕ) (outs : ℕ → List ℕ) (w : World) → stale_of w.state ≡ 0 → times k outs w ≡ 0
unfolding times
times-done zero outs w e = refl
times-done (suc k) outs w e = rw (eq-eqb (stale_of w.state) 0 e)

times_more : (k : ℕ) (outs : ℕ → List ℕ) (w : World) → (stale_of w.state ≡ 0 → ⊥) → times (suc k) outs w ≡ suc (times k (later outs) (step (reclaiming (outs 0)) w))
unfolding times
times_more k outs w e = rw (ne_eqb (stale_of w.state) 0 e)

-- the reclaims are those of `settle` on the device
record Ends (k : ℕ) (outs : ℕ → List ℕ) (w : World) (d e : Device) : Type 0 where
  state : (until k outs w).state ≡ words_of e
  storable : Storable e
  shrinks : length (extents e) ≤ length (extents d)
  times : times k outs w ≤ stale_blocks d
  way : Way Gains k outs w

ends_now : (k : ℕ) (outs : ℕ → List ℕ) (w : World) (d : Device) → w.state ≡ words_of d → Storable d → stale d ≡ 0 → Ends k outs w d d
ends_now k outs w d e g z =
    let y : stale_of w.state ≡ 0 = ap stale_of e ∙ stale-words d g ∙ z in
    record {
      state = ap (λ (v : World). v.state) (until-done k outs w y) ∙ e;
      storable = g;
      shrinks = omega arith;
      times = omega (arith, times-done k outs w y);
      way = no_way k y;
    }
  where
    no_way : (j : ℕ) → stale_of w.state ≡ 0 → Way Gains j outs w
    no_way zero y = tt
    no_way (suc j) y = λ n. absurd (n y)

ends : (k : ℕ) (outs : ℕ → List ℕ) (w : World) (d : Device) → w.state ≡ words_of d → Storable d → Way Roomy k outs w → Ends k outs w d (settle k d)
unfolding settle until times
ends zero outs w d e g r = record { state = e; storable = g; shrinks = omega arith; times = omega arith; way = tt }
ends (suc k) outs w d e g r =
    by_cases (ℕ_discrete (stale d) 0)
    (λ z. subst (Ends (suc k) outs w d) (sym (settle-done (suc k) d z)) (ends_now (suc k) outs w d e g z))
    (λ z. let y : stale_of w.state ≡ 0 → ⊥ = λ q. z (sym (stale-words d g) ∙ ap stale_of (sym e) ∙ q) in
    let out = outs 0 in
    let room : LongEnough (Call.reclaim out) (words_of d) = subst (LongEnough (Call.reclaim out)) e (r y).0 in
    let c = reclaim-all d g.sound (omega arith) in
    let i = ends k (later outs) (step (reclaiming out) w) (reclaimed d) (step-reclaim out d g z room w e) (storable-reclaim out d g z room) (r y).1 in
    subst (Ends (suc k) outs w d) (sym (settle-more k d z)) (record {
      state = ap (λ (x : World). x.state) (until-more k outs w y) ∙ i.state;
      storable = i.storable;
      shrinks = omega (arith, i.shrinks, reclaim-shrinks d g.sound (omega arith));
      times = omega (arith, times_more k outs w y, i.times, c.stale_blocks);
      way = λ n. (gains out d g z room w e, i.way);
    }))

-- ---- contents

both : (b : Bool) (t : List Seen) → cond b t t ≡ t
both true t = refl
both false t = refl

module _ (m : ℕ) where
  table_kept : (out : List ℕ) (w : World) → (step (reclaiming out) w).table ≡ w.table
  unfolding step shown
  table_kept out w = both (eqb (call (Call.reclaim out) w.state).refusal 0) w.table

  logical : (w : World) → Faithful m w → w.state.head.logical ≡ m
  unfolding words_of head_of
  logical w h = ap (λ (v : World). v.state.head.logical) h.is ∙ h.lines

  spares : (out : List ℕ) (w : World) → Faithful m w → Spares out w
  spares out w h = record {
    same = λ l k.
        let i : l < m = omega (arith, logical w h) in
        let v = step (reclaiming out) w in
        holds-reads m v (step-holds m (reclaiming out) w h) l i
        ∙ ap (λ (t : List Seen). get_or t l hole) (table_kept out w)
        ∙ sym (holds-reads m w h l i);
  }

  spares-way : (k : ℕ) (outs : ℕ → List ℕ) (w : World) → Faithful m w → Way Spares k outs w
  spares-way zero outs w h = tt
  spares-way (suc k) outs w h = λ n. (spares (outs 0) w h, spares-way k (later outs) (step (reclaiming (outs 0)) w) (step-holds m (reclaiming (outs 0)) w h))

-- ---- the write

puts-slots-all : (l n : ℕ) (e : Device) → (puts l n e).slots ≡ e.slots
unfolding puts
puts-slots-all l n e = puts-slots l (targets l n e) e

pieces-few : (l n : ℕ) (e : Device) → length (pieces l n e) ≤ n
unfolding pieces
pieces-few l n e = omega (arith, runs-length e.pages l (places l n e), length-placed l n e)

write-taken : (d e : Device) (k l n : ℕ) (out : List ℕ) → Storable d → Settled d e → length (extents e) ≤ length (extents d) → Asked (head_of d) k l n
    → length (lists (Call.write k l n out) e) ≤ length out → WriteTaken k l n out e
unfolding head_of lists
write-taken d e k l n out g q f a r =
    let z = g.sizes in
    let whole = never_stuck e q.sound (omega (arith, q.blocks, z.b-low)) (rw (q.lines, q.blocks, q.pages) z.l_high) q.clean in
    let pages : n ≤ free e = omega (arith, a.block, q.pages) in
    let inside : l + n ≤ lines e = omega (arith, a.inside, q.lines) in
    let same : (puts l n e).slots ≡ d.slots = puts-slots-all l n e ∙ q.slots in
    record {
      range = record { some = a.some; inside = inside };
      block = omega (arith, a.block, q.pages);
      newer = omega (arith, a.newer, ap (λ (x : Last). x.number) q.last);
      pages = pages;
      nodes = ⊎_elim
          (λ h. omega (arith, write-bound l n e q.sound pages inside))
          (λ h. omega (arith, write-lines l n e q.sound pages inside, q.lines))
          a.slots;
      room = omega (arith, flat-length (pieces l n e));
    }

demand : (d : Device) → Storable d → Demand3 (words_of d)
unfolding words_of head_of begin encoded accepted
demand d g f k l n out outs limit a h r =
    let w = begin (words_of d) f in
    let e = settle limit d in
    let i = ends limit outs w d refl g r in
    let b = stale_blocks_lt d g.sound in
    let q = settle-ends limit d g.sound (omega arith) in
    let c = Call.write k l n out in
    record {
      clean = ap stale_of i.state ∙ stale-words e i.storable ∙ q.clean;
      few = omega (arith, i.times);
      way = i.way;
      same = λ y. spares-way (lines d) limit outs w (begin-holds (words_of d) (storable-shaped d g) (storable-sound d g) f y);
      accepted = λ y.
          let room = enough c e i.storable (subst (LongEnough c) i.state y) in
          ap (λ (s : Lent). (call c s).refusal) i.state
          ∙ ap (λ (o : Outcome Lent). o.refusal) (call-taken c e i.storable (passes c e (write-taken d e k l n out g q i.shrinks a room)));
    }

pub settles : (s : Lent) → shaped s ≡ true → sound s ≡ true → Demand3 s
settles s z e = subst Demand3 (device-is s z e) (demand (device_of s) (device-storable s z e))

-- ---- sizes that suffice

-- a reclaim copies at most N pages
wide : (k : ℕ) (outs : ℕ → List ℕ) (w : World) (d : Device) → w.state ≡ words_of d → Storable d → ((i : ℕ) → d.pages ≤ length (outs i)) → Way Roomy k outs w
unfolding lists
wide zero outs w d e g r = tt
wide (suc k) outs w d e g r = λ y.
    let out = outs 0 in
    let z : stale d ≡ 0 → ⊥ = λ q. y (ap stale_of e ∙ stale-words d g ∙ q) in
    let c = victim-chosen d g.sound (omega arith) in
    let few = few-sources d g.sound (victim d) c.inside c.other in
    let long : LongEnough (Call.reclaim out) (words_of d) = rw (words-device d g) (omega (arith, r 0)) in (
      subst (LongEnough (Call.reclaim out)) (sym e) long,
      wide k (later outs) (step (reclaiming out) w) (reclaimed d) (step-reclaim out d g z long w e) (storable-reclaim out d g z long)
          (λ i. omega (arith, r (suc i), (reclaim-all d g.sound (omega arith)).pages)),
    )

pub wide_enough : (s : Lent) → shaped s ≡ true → sound s ≡ true → (f : List Cell) (k : ℕ) (outs : ℕ → List ℕ) → ((i : ℕ) → s.head.pages ≤ length (outs i))
    → Way Roomy k outs (begin s f)
unfolding begin device_of
wide_enough s z e f k outs r = wide k outs (begin s f) (device_of s) (sym (device-is s z e)) (device-storable s z e) r

-- a write has at most a piece for each page
pub write-enough : (k l n : ℕ) (out : List ℕ) (s : Lent) → 3 * n ≤ length out → LongEnough (Call.write k l n out) s
unfolding lists
write-enough k l n out s h = omega (arith, flat-length (pieces l n (device_of s)), pieces-few l n (device_of s))
