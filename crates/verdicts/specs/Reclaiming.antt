-- A reclaim's verdict, from the tests that the code makes.
use Rattle.std.specs.Prelude.{ℕ, ◌*◌, ◌≤◌, ◌<◌, Bool, not, ◌≡◌, eqb, leb, length, Result, Ok, Err}
use Rattle.std.proofs.Common.{sym, ◌∙◌, arith}
use Rattle.std.proofs.Math.Path.{ap, ap₂}
use Rattle.std.proofs.Math.Logic.{by_cases}
use Rattle.std.proofs.Math.Decide.{dec_lt}
use borrow.Author.Tests.{eq-eqb, ne_eqb, eqb-false, lt-ltb, le-ltb}
use Rattle.std.proofs.Math.Dec.{ltb}
use Rattle.std.proofs.lemmas.List.{length-replicate}
use Rattle.rules.specs.Counting.{most}
use Rattle.rules.specs.Blocks.{stride, fill_word, valid_word, HasBlock}
use Rattle.rules.specs.Lent.{Lent, valid_of}
use Rattle.rules.specs.Device.{blocks, stale, device_of}
use Rattle.rules.specs.Reclaim.{victim, sources}
use Rattle.rules.specs.Answers.{number, refuse}
use Rattle.rules.specs.Calls.{reclaim_refusal}
use Rattle.rules.specs.declared.Refusal.{Refusal}
use Rattle.laws.specs.Sums.{sum-zero, zero-sum}
use Rattle.laws.specs.Picks.{most_lt, most-top}
use Rattle.laws.specs.Sound.{Shaped, SoundState}
use Rattle.laws.specs.States.{device-blocks, device-fill, state-storable, valid-in_use}
use Rattle.laws.specs.Reclaimed.{length-sources}
use Rattle.laws.specs.Gains.{victim-chosen}
use Rattle.blocks.specs.Totals.{state-filled, device-stale}
use Rattle.choosing.specs.Stale.{stale_word, victim-words}
use Rattle.refusals.specs.Refusals.{told, roomed, over-not, stops, lets_pass, goes_on}

module _ (s : Lent) (h : Shaped s) (z : SoundState s) where
  -- what the search for the victim asks of the block records
  pub state-records : (stride * s.head.blocks ≤ length s.block_words) × ((b : ℕ) → b < s.head.blocks → valid_word s.block_words b ≤ fill_word s.block_words b)
  state-records = (omega (arith, h.blocks), (state-filled s h z).valid)

  pub found-victim : most s.head.blocks (stale_word s.block_words) ≡ victim (device_of s)
  found-victim =
      let inside : (b : ℕ) → b < blocks (device_of s) → b < s.head.blocks = λ b p. omega (arith, device-blocks s) in
      ap (λ (k : ℕ). most k (stale_word s.block_words)) (sym (device-blocks s))
      ∙ victim-words (device_of s) (state-storable s h z).sound s.block_words (λ b p. sym (device-fill s b (inside b p))) (λ b p. sym (valid-in_use s h z b (inside b p)))

  module _ (v : ℕ) (f : v ≡ victim (device_of s)) where
    greatest : v ≡ most s.head.blocks (stale_word s.block_words)
    greatest = f ∙ sym found-victim

    inside : v < s.head.blocks
    inside = omega (arith, greatest, most_lt s.head.blocks (stale_word s.block_words) (omega (arith, z.kept)))

    pub victim_record : (HasBlock s.block_words v) × (valid_word s.block_words v ≤ fill_word s.block_words v)
    victim_record = (omega (arith, inside, h.blocks), (state-filled s h z).valid v inside)

    -- 8: the victim has no stale page
    is-nothing : (i : ℕ) → i ≡ stale_word s.block_words v → not (ltb 0 i) ≡ eqb (stale (device_of s)) 0
    is-nothing i e =
        let w = stale_word s.block_words in
        let n = s.head.blocks in
        let all = device-stale s h z in
        by_cases (dec_lt 0 i)
        (λ g. ap not (lt-ltb 0 i g) ∙ sym (ne_eqb (stale (device_of s)) 0 (λ o. omega (arith, zero-sum n w (sym all ∙ o) v inside))))
        (λ g. ap not (le-ltb 0 i (omega arith)) ∙ sym (eq-eqb (stale (device_of s)) 0 (all ∙ sum-zero n w (λ b o. omega (arith, most-top n w b o, ap w greatest)))))

    -- 7: the copies are its valid pages
    copies : 0 < stale (device_of s) → valid_of s v ≡ length (sources (victim (device_of s)) (device_of s))
    copies some =
        let d = device_of s in
        let c = victim-chosen d (state-storable s h z).sound some in
        ap (valid_of s) f
        ∙ sym (length-sources d (state-storable s h z).sound (victim d) c.inside c.other ∙ valid-in_use s h z (victim d) (omega (arith, c.inside, device-blocks s)))

    module _ (room i : ℕ) (e : i ≡ stale_word s.block_words v) (a : Result (Unit {0}) Refusal) (p : told a ≡ refuse (not (ltb 0 i)) Refusal.NothingStale 0) where
      -- 7, which is tested where 8 is passed
      late : ℕ
      late = refuse (ltb room (length (sources (victim (device_of s)) (device_of s)))) Refusal.OutShort 0

      in_order : reclaim_refusal (roomed room) (device_of s) ≡ refuse (not (ltb 0 i)) Refusal.NothingStale late
      unfolding reclaim_refusal late
      in_order = ap₂ (λ (b : Bool) (k : ℕ). refuse b Refusal.NothingStale (refuse (ltb k (length (sources (victim (device_of s)) (device_of s)))) Refusal.OutShort 0))
          (sym (is-nothing i e)) (length-replicate {A = ℕ} room 0)

      pub reclaim-nothing : (r : Refusal) → a ≡ Err r → number r ≡ reclaim_refusal (roomed room) (device_of s)
      reclaim-nothing r f = stops a (not (ltb 0 i)) Refusal.NothingStale p r f late ∙ sym in_order

      pub reclaim-short : (x : Unit {0}) → a ≡ Ok x → (j : ℕ) (b : Result (Unit {0}) Refusal) → j ≡ valid_word s.block_words v
          → told b ≡ refuse (not (leb j room)) Refusal.OutShort 0 → told b ≡ reclaim_refusal (roomed room) (device_of s)
      unfolding late
      reclaim-short x f j b g q =
          let o = eqb-false (stale (device_of s)) 0 (sym (is-nothing i e) ∙ lets_pass a (not (ltb 0 i)) Refusal.NothingStale p x f) in
          q ∙ ap (λ (t : Bool). refuse t Refusal.OutShort 0) (over-not j room ∙ ap (ltb room) (g ∙ copies (omega arith)))
          ∙ sym (goes_on a (not (ltb 0 i)) Refusal.NothingStale p x f late) ∙ sym in_order
