-- One call on any lent state, sound or not: the sizes stay, and the last number does not fall.
use Rattle.std.specs.Prelude.{◌≤◌, ◌≡◌, refl}
use Rattle.std.proofs.Math.Path.{ap}
use Rattle.std.proofs.Common.{◌∙◌, arith}
use Rattle.std.proofs.Math.Logic.{by_cases}
use Rattle.std.proofs.Math.Decide.{ℕ_discrete}
use Rattle.rules.specs.Lent.{Lent}
use Rattle.rules.specs.Device.{Device, device_of, head_of, words_of}
use Rattle.rules.specs.Placement.{targets, puts}
use Rattle.rules.specs.Reclaim.{reclaimed_at, reclaimed}
use Rattle.rules.specs.Request.{with_table, numbered, written, trimmed}
use Rattle.rules.specs.Calls.{Call, refusal, leaves, call}
use Rattle.laws.specs.Placed.{puts-pages}
use Rattle.laws.specs.Kept.{refusal-taken, accepted_in}
use Rattle.demands.proofs.Refusals.{refused-untouched}

pub leaves-pages : (c : Call) (d : Device) → (leaves c d).pages ≡ d.pages
unfolding leaves written numbered with_table puts trimmed reclaimed reclaimed_at
leaves-pages (Call.write k l n out) d = puts-pages l (targets l n d) d
leaves-pages (Call.trim k l n) d = refl
leaves-pages (Call.read l n out) d = refl
leaves-pages (Call.reclaim out) d = refl
leaves-pages Call.report d = refl

leaves_last : (c : Call) (d : Device) → refusal c d ≡ 0 → d.last.number ≤ (leaves c d).last.number
unfolding leaves written numbered with_table trimmed reclaimed reclaimed_at
leaves_last (Call.write k l n out) d e = omega (arith, (refusal-taken (Call.write k l n out) d e).newer)
leaves_last (Call.trim k l n) d e = omega (arith, (refusal-taken (Call.trim k l n) d e).newer)
leaves_last (Call.read l n out) d e = omega arith
leaves_last (Call.reclaim out) d e = omega arith
leaves_last Call.report d e = omega arith

module _ (c : Call) (s : Lent) where
  -- by whether it is accepted
  pub either : {C : Type 0} → ((call c s).refusal ≡ 0 → C) → (((call c s).refusal ≡ 0 → ⊥) → C) → C
  either f g = by_cases (ℕ_discrete (call c s).refusal 0) f g

  pub call-pages : (call c s).after.head.pages ≡ s.head.pages
  unfolding words_of head_of device_of
  call-pages =
      either
      (λ e. ap (λ (t : Lent). t.head.pages) (accepted_in c s e).after ∙ leaves-pages c (device_of s))
      (λ e. ap (λ (t : Lent). t.head.pages) (refused-untouched c s e).after)

  pub call-last : s.head.last.number ≤ (call c s).after.head.last.number
  unfolding words_of head_of device_of
  call-last =
      either
      (λ e. let a = accepted_in c s e in
      omega (arith, ap (λ (t : Lent). t.head.last.number) a.after, leaves_last c (device_of s) a.plainly))
      (λ e. omega (arith, ap (λ (t : Lent). t.head.last.number) (refused-untouched c s e).after))
