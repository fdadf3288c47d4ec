-- Views: the outcome of one that is accepted and of one that is refused; and report and read as views.
use Rattle.std.specs.Prelude.{ℕ, cond, ◌≡◌, List, eqb, replicate}
use Rattle.std.proofs.Math.Logic.{by_cases}
use Rattle.std.proofs.Math.Decide.{ℕ_discrete}
use borrow.Author.Tests.{ne_eqb}
use Rattle.rules.specs.Lent.{Lent}
use Rattle.rules.specs.Device.{Device, device_of, words_of}
use Rattle.rules.specs.Answers.{Outcome}
use Rattle.rules.specs.Calls.{Call, refusal, counts, leaves, lists, over, refused, tested, accepted_on, call}
use Rattle.rules.specs.Views.{View, view, reporting, reading}
use Rattle.laws.specs.Refused.{tested-none}
use Rattle.laws.specs.Kept.{device-is}

-- ---- of any view: what 1, 2 and its own refusals give decides

module _ (v : View) (s : Lent) where
  pub view-accepts : tested v.refusal s ≡ 0 → (cs out : List ℕ) → cs ≡ v.counts (device_of s) → out ≡ over (v.lists (device_of s)) v.buffer
      → ◌≡◌ {A = Outcome Lent} (record { refusal = 0; counts = cs; after = s; out = out }) (view v s)
  unfolding view
  view-accepts z cs out e f = rw z (λ i. record { refusal = 0; counts = e i; after = s; out = f i })

  pub view-refuses : (r : ℕ) → (r ≡ 0 → ⊥) → tested v.refusal s ≡ r
      → ◌≡◌ {A = Outcome Lent} (record { refusal = r; counts = replicate v.zeros 0; after = s; out = v.buffer }) (view v s)
  unfolding view
  view-refuses r n e = rw (e, ne_eqb r 0 n)

-- ---- report and read are views: what they leave is what they were given

-- the words of its device are the state that was given
module _ (v : View) (s : Lent) where
  abbrev r : ℕ
  r = tested v.refusal s

  abbrev d : Device
  d = device_of s

  same-words : r ≡ 0 → words_of d ≡ s
  same-words e = let p = tested-none v.refusal s e in device-is s p.0 p.1

  encodes : cond (eqb r 0)
      (record { refusal = 0; counts = v.counts d; after = words_of d; out = over (v.lists d) v.buffer })
      (record { refusal = r; counts = replicate v.zeros 0; after = s; out = v.buffer })
      ≡ view v s
  unfolding view
  encodes =
      by_cases (ℕ_discrete r 0)
      (λ e. rw e (λ i. record { refusal = 0; counts = v.counts d; after = same-words e i; out = over (v.lists d) v.buffer }))
      (λ e. rw (ne_eqb r 0 e))

pub report-view : (s : Lent) → call Call.report s ≡ view reporting s
unfolding call accepted_on refused refusal counts leaves lists
report-view s = encodes reporting s

pub read_view : (l n : ℕ) (out : List ℕ) (s : Lent) → call (Call.read l n out) s ≡ view (reading l n out) s
unfolding call accepted_on refused refusal counts leaves lists
read_view l n out s = encodes (reading l n out) s
