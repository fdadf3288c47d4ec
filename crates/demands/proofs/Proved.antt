-- The demands, the double refund, T-04 and T-12 as theorems. Each statement is a record of the file that has its name; the proofs are in the files below.
use Rattle.std.specs.Prelude.{ℕ, ◌*◌, ◌-◌, ◌≤◌, true, ◌≡◌, refl, List, length}
use Rattle.std.proofs.Common.{sym, ap, ◌∙◌, subst}
use Rattle.rules.specs.Lent.{Lent}
use Rattle.rules.specs.Shape.{shaped}
use Rattle.rules.specs.Sound.{sound}
use Rattle.rules.specs.Device.{Device, device_of}
use Rattle.rules.specs.Makes.{Make, make}
use Rattle.rules.specs.Calls.{Call, call, fresh_device, from_sizes, fresh}
use Rattle.laws.specs.Sound.{Storable}
use Rattle.laws.specs.States.{words-device}
use Rattle.laws.specs.Makes.{make-leaves, make-sound}
use Rattle.demands.specs.Flash.{Cell}
use Rattle.demands.specs.Host.{Ask, World, run, ErasedFromFill, begin}
use Rattle.demands.specs.Demand1.{Demand1}
use Rattle.demands.specs.Demand2.{Demand2, begin_fresh}
use Rattle.demands.specs.Made.{Made}
use Rattle.demands.specs.Demand3.{Asked, until, Settles, Demand3}
use Rattle.demands.specs.Once.{AppliedOnce}
use Rattle.demands.specs.Struck.{SixStruck}
use Rattle.demands.specs.Whole.{KeptWhole}
use Rattle.demands.proofs.Refusals.{answers, reports, fresh-answers}
use Rattle.demands.proofs.Starts.{begin-holds, erased_flash, erased-all, made-storable, made-begins}
use Rattle.demands.proofs.Histories.{holds-demand}
use Rattle.demands.proofs.Settling.{settles, wide_enough, write-enough}
use Rattle.demands.proofs.Repeats.{begins-once}
use Rattle.demands.proofs.Shrinks.{struck}
use Rattle.demands.proofs.Keeps.{keeps-whole}

-- every request on every lent state
pub demand_1 : Demand1
demand_1 = record { numbers = refl; calls = answers; reports = reports; freshes = fresh-answers }

-- from any sound state, on flash that is erased from each block's fill on
pub demand_2_from : (s : Lent) → shaped s ≡ true → sound s ≡ true → (f : List Cell) → ErasedFromFill s f → (asks : List Ask) → Demand2 (begin s f) (device_of s) asks
unfolding begin
demand_2_from s z e f c asks = holds-demand s.head.logical (begin s f) (begin-holds s z e f c) asks

-- the same from any accepted make of a storable device
pub demand_2_made : (a : Make) → Storable a.device → (extent_words block_words spare : List ℕ) → (make a extent_words block_words spare).refusal ≡ 0
    → Made a extent_words block_words spare
demand_2_made a g es bs ss e =
    let s = (make a es bs ss).after in
    let p = make-sound a es bs ss g e in
    record {
      shape = p.0;
      whole = p.1;
      begins = λ f c asks. subst (λ (d : Device). Demand2 (begin s f) d asks) (ap device_of (make-leaves a es bs ss e).1 ∙ words-device a.device g)
          (demand_2_from s p.0 p.1 f c asks);
    }

-- from an accepted fresh, whatever words were lent to it, on erased flash
pub demand_2 : (b n l m : ℕ) (extent_words block_words spare : List ℕ) → (fresh b n l m extent_words block_words spare).refusal ≡ 0 → (asks : List Ask)
    → Demand2 (begin_fresh (fresh b n l m extent_words block_words spare).after) (fresh_device b n l m) asks
unfolding fresh
demand_2 b n l m es bs ss e asks =
    let s = (fresh b n l m es bs ss).after in
    subst (λ (w : World). Demand2 w (fresh_device b n l m) asks) (sym (made-begins b n l m es bs ss e))
    ((demand_2_made (from_sizes b n l m) (made-storable b n l m es bs ss e) es bs ss e).begins (erased_flash s) (erased-all s) asks)

-- from any sound state
pub demand_3 : (s : Lent) → shaped s ≡ true → sound s ≡ true → Demand3 s
demand_3 = settles

-- sizes that suffice: N words for each reclaim, three words for each page of the write
pub demand_3_sizes : (s : Lent) → shaped s ≡ true → sound s ≡ true → (f : List Cell) (k l n : ℕ) (out : List ℕ) (outs : ℕ → List ℕ) (limit : ℕ)
    → Asked s.head k l n → s.head.blocks - 1 ≤ limit → ((i : ℕ) → s.head.pages ≤ length (outs i)) → 3 * n ≤ length out
    → Settles s f limit outs (Call.write k l n out) × ((call (Call.write k l n out) (until limit outs (begin s f)).state).refusal ≡ 0)
demand_3_sizes s z e f k l n out outs limit a h r m =
    let x = demand_3 s z e f k l n out outs limit a h (wide_enough s z e f limit outs r) in
    (x, x.accepted (write-enough k l n out (until limit outs (begin s f)).state m))

-- from any sound state, on any flash, after any requests
pub applied-once : (s : Lent) → shaped s ≡ true → sound s ≡ true → (f : List Cell) (before : List Ask) → AppliedOnce (run before (begin s f))
applied-once = begins-once

-- every reclaim on every lent state: the 6 that document 02 strikes from its refusals was never given
pub six-struck : (out : List ℕ) (s : Lent) → SixStruck out s
six-struck = struck

-- every accepted write: whole in the lowest-numbered block that has room for it, and cut only where none has
pub kept_whole : (k l n : ℕ) (out : List ℕ) (s : Lent) → (call (Call.write k l n out) s).refusal ≡ 0 → KeptWhole l n s (call (Call.write k l n out) s)
kept_whole = keeps-whole
