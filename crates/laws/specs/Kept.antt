-- What it says that a call is accepted, that an accepted call leaves a storable device, and that a refused one leaves everything.
use Rattle.std.specs.Prelude.{ℕ, ◌+◌, ◌-◌, ◌*◌, ◌≤◌, ◌<◌, true, false, ◌||◌, ◌≡◌, refl, List, eqb, ltb, leb, length}
use Rattle.std.proofs.Common.{sym, ◌∙◌, arith, ltb-false, leb-false, eq-eqb, ne_eqb, le-ltb}
use Rattle.std.proofs.Math.Path.{ap}
use Rattle.std.proofs.Math.Logic.{by_cases}
use Rattle.std.proofs.Math.Decide.{ℕ_discrete}
use Rattle.std.proofs.lemmas.Bool.{eqb-false, lt-leb}
use Rattle.rules.specs.Lent.{Lent}
use Rattle.rules.specs.Shape.{shaped}
use Rattle.rules.specs.Sound.{sound}
use Rattle.rules.specs.Device.{Device, blocks, lines, free, live, stale, extents, device_of, words_of}
use Rattle.rules.specs.Placement.{targets, puts, pieces}
use Rattle.rules.specs.Request.{applied, judged, with_table, numbered, written, trimmed}
use Rattle.rules.specs.Reclaim.{victim, sources, reclaimed}
use Rattle.rules.specs.Read.{found}
use Rattle.rules.specs.Calls.{Call, outside, too_many, write_refusal, trim_refusal, read_refusal, reclaim_refusal, refusal, leaves, refused, verdict, accepted_on, call}
use Rattle.rules.specs.declared.Refusal.{Refusal}
use Rattle.laws.specs.Bools.{or_split}
use Rattle.laws.specs.Refused.{refuse_none, refuse_pass, tested-none}
use Rattle.laws.specs.Device.{SoundDevice}
use Rattle.laws.specs.Placed.{puts-pages, puts-slots}
use Rattle.laws.specs.Order.{puts-all}
use Rattle.laws.specs.Lines.{written-sound, trimmed-lines, trimmed-sound}
use Rattle.laws.specs.Gains.{reclaim-all}
use Rattle.laws.specs.Encoded.{reclaim-shrinks}
use Rattle.laws.specs.Balance.{balance'}
use Rattle.laws.specs.States.{device-blocks, storable-shaped, storable-sound, sound_iff}
use Rattle.laws.specs.Sound.{Sizes, Storable}

-- ---- the tests, one by one

-- 3
pub record InRange (l n : ℕ) (d : Device) : Type 0 where
  pub some : 0 < n
  pub inside : l + n ≤ lines d

pub in_range_lem : (l n : ℕ) (d : Device) → outside l n d ≡ false → InRange l n d
unfolding outside
in_range_lem l n d e =
    let r = or_split (eqb n 0) (ltb (lines d) (l + n)) e in
    let z = eqb-false n 0 r.0 in
    record { some = omega arith; inside = ltb-false (lines d) (l + n) r.1 }

pub range_in : (l n : ℕ) (d : Device) → InRange l n d → outside l n d ≡ false
unfolding outside
range_in l n d r = rw (ne_eqb n 0 (omega arith), le-ltb (lines d) (l + n) r.inside)

-- 6
pub fits : (e : Device) → too_many e ≡ false → length (extents e) ≤ e.slots
unfolding too_many
fits e t = ltb-false e.slots (length (extents e)) t

pub fits_in : (e : Device) → length (extents e) ≤ e.slots → too_many e ≡ false
unfolding too_many
fits_in e h = le-ltb e.slots (length (extents e)) h

-- 4
pub judged-none : (k : ℕ) (d : Device) (later : ℕ) → judged k d later ≡ 0 → (d.last.number < k) × (later ≡ 0)
unfolding judged applied
judged-none k d later e = let a = refuse_none (leb k d.last.number) Refusal.Applied later e in (leb-false k d.last.number a.0, a.1)

pub judged_pass : (k : ℕ) (d : Device) (later : ℕ) → d.last.number < k → later ≡ 0 → judged k d later ≡ 0
unfolding judged applied
judged_pass k d later h z = refuse_pass (leb k d.last.number) Refusal.Applied later (lt-leb k d.last.number h) z

-- ---- what it says that a call is accepted

pub record WriteTaken (k l n : ℕ) (out : List ℕ) (d : Device) : Type 0 where
  pub range : InRange l n d
  pub block : n ≤ d.pages
  pub newer : d.last.number < k
  pub pages : n ≤ free d
  pub nodes : length (extents (puts l n d)) ≤ (puts l n d).slots
  pub room : 3 * length (pieces l n d) ≤ length out

pub record TrimTaken (k l n : ℕ) (d : Device) : Type 0 where
  pub range : InRange l n d
  pub newer : d.last.number < k
  pub nodes : length (extents (trimmed k l n d)) ≤ (trimmed k l n d).slots

pub record ReadTaken (l n : ℕ) (out : List ℕ) (d : Device) : Type 0 where
  pub range : InRange l n d
  pub room : 3 * length (found l n d) ≤ length out

pub record ReclaimTaken (out : List ℕ) (d : Device) : Type 0 where
  pub gains : 0 < stale d
  pub room : length (sources (victim d) d) ≤ length out

abbrev pub Taken : Call → Device → Type 0
Taken (Call.write k l n out) d = WriteTaken k l n out d
Taken (Call.trim k l n) d = TrimTaken k l n d
Taken (Call.read l n out) d = ReadTaken l n out d
Taken (Call.reclaim out) d = ReclaimTaken out d
Taken Call.report d = Unit {0}

pub refusal-taken : (c : Call) (d : Device) → refusal c d ≡ 0 → Taken c d
unfolding refusal write_refusal trim_refusal read_refusal reclaim_refusal
refusal-taken (Call.write k l n out) d e =
    let a = refuse_none (outside l n d || ltb d.pages n) Refusal.Range _ e in
    let b = judged-none k d _ a.1 in
    let c = refuse_none (ltb (free d) n) Refusal.NoPages _ b.1 in
    let x = refuse_none (too_many (puts l n d)) Refusal.NoNodes _ c.1 in
    let y = refuse_none (ltb (length out) (3 * length (pieces l n d))) Refusal.OutShort 0 x.1 in
    let r = or_split (outside l n d) (ltb d.pages n) a.0 in
    record {
      range = in_range_lem l n d r.0;
      block = ltb-false d.pages n r.1;
      newer = b.0;
      pages = ltb-false (free d) n c.0;
      nodes = fits (puts l n d) x.0;
      room = ltb-false (length out) (3 * length (pieces l n d)) y.0;
    }
refusal-taken (Call.trim k l n) d e =
    let a = refuse_none (outside l n d) Refusal.Range _ e in
    let b = judged-none k d _ a.1 in
    let x = refuse_none (too_many (trimmed k l n d)) Refusal.NoNodes 0 b.1 in
    record { range = in_range_lem l n d a.0; newer = b.0; nodes = fits (trimmed k l n d) x.0 }
refusal-taken (Call.read l n out) d e =
    let a = refuse_none (outside l n d) Refusal.Range _ e in
    let y = refuse_none (ltb (length out) (3 * length (found l n d))) Refusal.OutShort 0 a.1 in
    record { range = in_range_lem l n d a.0; room = ltb-false (length out) (3 * length (found l n d)) y.0 }
refusal-taken (Call.reclaim out) d e =
    let a = refuse_none (eqb (stale d) 0) Refusal.NothingStale _ e in
    let y = refuse_none (ltb (length out) (length (sources (victim d) d))) Refusal.OutShort 0 a.1 in
    let z = eqb-false (stale d) 0 a.0 in
    record { gains = omega arith; room = ltb-false (length out) (length (sources (victim d) d)) y.0 }
refusal-taken Call.report d e = tt

pub passes : (c : Call) (d : Device) → Taken c d → refusal c d ≡ 0
unfolding refusal write_refusal trim_refusal read_refusal reclaim_refusal
passes (Call.write k l n out) d t =
    refuse_pass (outside l n d || ltb d.pages n) Refusal.Range _ (rw (range_in l n d t.range, le-ltb d.pages n t.block))
    (judged_pass k d _ t.newer
    (refuse_pass (ltb (free d) n) Refusal.NoPages _ (le-ltb (free d) n t.pages)
    (refuse_pass (too_many (puts l n d)) Refusal.NoNodes _ (fits_in (puts l n d) t.nodes)
    (refuse_pass (ltb (length out) (3 * length (pieces l n d))) Refusal.OutShort 0 (le-ltb (length out) (3 * length (pieces l n d)) t.room) refl))))
passes (Call.trim k l n) d t =
    refuse_pass (outside l n d) Refusal.Range _ (range_in l n d t.range)
    (judged_pass k d _ t.newer
    (refuse_pass (too_many (trimmed k l n d)) Refusal.NoNodes 0 (fits_in (trimmed k l n d) t.nodes) refl))
passes (Call.read l n out) d t =
    refuse_pass (outside l n d) Refusal.Range _ (range_in l n d t.range)
    (refuse_pass (ltb (length out) (3 * length (found l n d))) Refusal.OutShort 0 (le-ltb (length out) (3 * length (found l n d)) t.room) refl)
passes (Call.reclaim out) d t =
    refuse_pass (eqb (stale d) 0) Refusal.NothingStale _ (ne_eqb (stale d) 0 (omega (arith, t.gains)))
    (refuse_pass (ltb (length out) (length (sources (victim d) d))) Refusal.OutShort 0 (le-ltb (length out) (length (sources (victim d) d)) t.room) refl)
passes Call.report d t = refl

-- ---- what an accepted call leaves is storable

sizes-same : (d e : Device) → e.pages ≡ d.pages → e.slots ≡ d.slots → blocks e ≡ blocks d → lines e ≡ lines d
    → Sizes (blocks d) d.pages (lines d) d.slots → Sizes (blocks e) e.pages (lines e) e.slots
sizes-same d e p m b l z = rw (p, m, b, l) z

-- the number is no part of the map
numbered-storable : (k : ℕ) (e : Device) → Sizes (blocks e) e.pages (lines e) e.slots → length (extents e) ≤ e.slots → SoundDevice (numbered k e) → Storable (numbered k e)
unfolding numbered with_table extents
numbered-storable k e z f s = record { sizes = z; sound = s; few = f }

trimmed-sizes : (k l n : ℕ) (d : Device) → Sizes (blocks d) d.pages (lines d) d.slots
    → Sizes (blocks (trimmed k l n d)) (trimmed k l n d).pages (lines (trimmed k l n d)) (trimmed k l n d).slots
unfolding trimmed with_table
trimmed-sizes k l n d z = sizes-same d (trimmed k l n d) refl refl refl (trimmed-lines k l n d) z

pub keeps : (c : Call) (d : Device) → Storable d → refusal c d ≡ 0 → Storable (leaves c d)
unfolding leaves written puts
keeps (Call.write k l n out) d g e =
    let t = refusal-taken (Call.write k l n out) d e in
    let p = puts-all l n d g.sound t.pages t.range.inside in
    numbered-storable k (puts l n d)
    (sizes-same d (puts l n d) (puts-pages l (targets l n d) d) (puts-slots l (targets l n d) d) p.blocks p.lines g.sizes)
    t.nodes
    (written-sound k l n d g.sound t.pages t.range.inside)
keeps (Call.trim k l n) d g e =
    let t = refusal-taken (Call.trim k l n) d e in
    record { sizes = trimmed-sizes k l n d g.sizes; sound = trimmed-sound k l n d g.sound t.range.inside; few = t.nodes }
keeps (Call.read l n out) d g e = g
keeps (Call.reclaim out) d g e =
    let t = refusal-taken (Call.reclaim out) d e in
    let r = reclaim-all d g.sound t.gains in
    record {
      sizes = sizes-same d (reclaimed d) r.pages r.slots r.blocks r.lines g.sizes;
      sound = r.sound;
      few = omega (arith, reclaim-shrinks d g.sound t.gains, r.slots, g.few);
    }
keeps Call.report d g e = g

-- ---- on lent words

-- a sound state's words are those of its device
module _ (s : Lent) (z : shaped s ≡ true) (e : sound s ≡ true) where
  pub device-storable : Storable (device_of s)
  device-storable = ((sound_iff s z).0 e).0

  pub device-is : words_of (device_of s) ≡ s
  device-is = ((sound_iff s z).0 e).1

  -- 01, a sound state: free + live + stale = (B - 1) x N
  pub three-counts : free (device_of s) + live (device_of s) + stale (device_of s) ≡ (s.head.blocks - 1) * s.head.pages
  unfolding device_of
  three-counts = balance' (device_of s) device-storable.sound ∙ ap (λ (b : ℕ). (b - 1) * s.head.pages) (device-blocks s)

pub call-verdict : (c : Call) (s : Lent) → (call c s).refusal ≡ verdict c s
unfolding call accepted_on refused
call-verdict c s =
    by_cases (ℕ_discrete (verdict c s) 0)
    (λ e. rw (eq-eqb (verdict c s) 0 e) (sym e))
    (λ e. rw (ne_eqb (verdict c s) 0 e))

-- a call is accepted only in a sound state, where the plain device accepts it
pub record AcceptedIn (c : Call) (s : Lent) : Type 0 where
  pub shape : shaped s ≡ true
  pub whole : sound s ≡ true
  pub plainly : refusal c (device_of s) ≡ 0
  pub after : (call c s).after ≡ words_of (leaves c (device_of s))

pub accepted_in : (c : Call) (s : Lent) → (call c s).refusal ≡ 0 → AcceptedIn c s
unfolding call accepted_on
accepted_in c s e =
    let v : verdict c s ≡ 0 = sym (call-verdict c s) ∙ e in
    let t = tested-none (refusal c) s v in
    record { shape = t.0; whole = t.1; plainly = t.2; after = rw (eq-eqb (verdict c s) 0 v) }

-- and leaves a sound state
pub accepted-sound : (c : Call) (s : Lent) → (call c s).refusal ≡ 0 → (shaped (call c s).after ≡ true) × (sound (call c s).after ≡ true)
accepted-sound c s e =
    let a = accepted_in c s e in
    let d = leaves c (device_of s) in
    let g : Storable d = keeps c (device_of s) (device-storable s a.shape a.whole) a.plainly in
    (ap shaped a.after ∙ storable-shaped d g, ap sound a.after ∙ storable-sound d g)
