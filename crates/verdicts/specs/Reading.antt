-- A read's verdict, from the tests that the code makes.
use Rattle.std.specs.Prelude.{ℕ, ◌+◌, ◌*◌, ◌/◌, ◌≤◌, Bool, false, ◌||◌, ◌≡◌, eqb, leb, Result, Ok, Err}
use Rattle.std.proofs.Math.Bool.{not}
use Rattle.std.proofs.Math.Path.{sym, ap}
use Rattle.std.proofs.Common.{ap₂, ◌∙◌}
use Rattle.std.proofs.Math.Dec.{ltb}
use Rattle.std.proofs.Math.ListN.{length}
use Rattle.std.proofs.lemmas.List.{length-replicate}
use Rattle.rules.specs.Lent.{Lent, in_use}
use Rattle.rules.specs.Device.{device_of}
use Rattle.rules.specs.Answers.{number, refuse}
use Rattle.rules.specs.Read.{found}
use Rattle.rules.specs.Calls.{outside, read_refusal}
use Rattle.rules.specs.declared.Refusal.{Refusal}
use Rattle.laws.specs.Sound.{Shaped, SoundState}
use Rattle.reading.specs.Walk.{between, found-words}
use Rattle.refusals.specs.Ranges.{is-outside, inside-words, short-words}
use Rattle.refusals.specs.Refusals.{told, roomed, stops, lets_pass, goes_on}

module _ (s : Lent) (h : Shaped s) (z : SoundState s) (l n room : ℕ) (t : Bool) (e : not t ≡ (eqb n 0 || ltb s.head.logical (l + n))) where
  -- 7, which is tested where 3 is passed
  late : ℕ
  late = refuse (ltb room (3 * length (found l n (device_of s)))) Refusal.OutShort 0

  in_order : read_refusal l n (roomed room) (device_of s) ≡ refuse (not t) Refusal.Range late
  unfolding read_refusal late
  in_order = ap₂ (λ (b : Bool) (k : ℕ). refuse b Refusal.Range (refuse (ltb k (3 * length (found l n (device_of s)))) Refusal.OutShort 0))
      (sym (is-outside s l n t e)) (length-replicate {A = ℕ} room 0)

  pub read-range : (v : Result (Unit {0}) Refusal) → told v ≡ refuse (not t) Refusal.Range 0 → (r : Refusal) → v ≡ Err r
      → number r ≡ read_refusal l n (roomed room) (device_of s)
  read-range v p r f = stops v (not t) Refusal.Range p r f late ∙ sym in_order

  pub read-short : (v w : Result (Unit {0}) Refusal) (a : Unit {0}) (k : ℕ) → told v ≡ refuse (not t) Refusal.Range 0 → v ≡ Ok a
      → k ≡ length (between l (l + n) (in_use s)) → told w ≡ refuse (not (leb k (room / 3))) Refusal.OutShort 0 → told w ≡ read_refusal l n (roomed room) (device_of s)
  unfolding late
  read-short v w a k p f g q =
      let o : outside l n (device_of s) ≡ false = sym (is-outside s l n t e) ∙ lets_pass v (not t) Refusal.Range p a f in
      q ∙ ap (λ (b : Bool). refuse b Refusal.OutShort 0)
      (short-words room k ∙ ap (λ (m : ℕ). ltb room (3 * m)) (g ∙ sym (ap length (found-words s h z l n (inside-words s l n o).1))))
      ∙ sym (goes_on v (not t) Refusal.Range p a f late) ∙ sym in_order

  pub read-within : (v : Result (Unit {0}) Refusal) (a : Unit {0}) → told v ≡ refuse (not t) Refusal.Range 0 → v ≡ Ok a → l + n ≤ s.head.logical
  read-within v a p f = (inside-words s l n (sym (is-outside s l n t e) ∙ lets_pass v (not t) Refusal.Range p a f)).1
