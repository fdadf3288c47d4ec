-- A trim's verdict, from the tests that the code makes.
use Prim.Native.Nat.{ℕ, ◌+◌, ◌≤◌, ◌<◌}
use Rattle.std.specs.Prelude.{Bool, not, ◌≡◌, leb, Result, Ok, Err}
use Rattle.std.proofs.Math.Path.{refl, sym, ap, ap₂}
use Rattle.std.proofs.Common.{◌∙◌}
use Rattle.std.proofs.Math.Dec.{ltb}
use Rattle.std.proofs.Math.ListN.{length}
use Rattle.rules.specs.Lent.{Lent, in_use}
use Rattle.rules.specs.Device.{extents, device_of}
use Rattle.rules.specs.Request.{trimmed, with_table}
use Rattle.rules.specs.Answers.{number, refuse}
use Rattle.rules.specs.Calls.{outside, too_many, trim_refusal}
use Rattle.rules.specs.declared.Refusal.{Refusal}
use Rattle.laws.specs.Sound.{Shaped, SoundState}
use Rattle.laws.specs.Counts.{starts_before, ends_after}
use Rattle.map.specs.Around.{trim-nodes}
use Rattle.refusals.specs.Refusals.{told, over-not}
use Rattle.refusals.specs.Numbered.{number_refusal, asked-refuses, asked-passes, asked-inside}
use Rattle.refusals.specs.Ranges.{inside-words}

module _ (s : Lent) (h : Shaped s) (z : SoundState s) (k l n : ℕ) where
  many : (trimmed k l n (device_of s)).slots ≡ s.head.slots
  unfolding trimmed with_table device_of
  many = refl

  module _ (v : Result (Unit {0}) Refusal) (a : told v ≡ refuse (outside l n (device_of s)) Refusal.Range (number_refusal s.head k)) where
    pub trim-asked : (r : Refusal) → v ≡ Err r → number r ≡ trim_refusal k l n (device_of s)
    unfolding trim_refusal
    trim-asked r g = asked-refuses s k (outside l n (device_of s)) v a r _ g

    module _ (x : Unit {0}) (g : v ≡ Ok x) where
      trim-inside : (0 < n) × (l + n ≤ s.head.logical)
      trim-inside = inside-words s l n (asked-inside s k (outside l n (device_of s)) v a x g)

      pub trim-last : (i j : ℕ) (w : Result (Unit {0}) Refusal) → i ≡ starts_before l (in_use s) → j ≡ ends_after (l + n) (in_use s)
          → told w ≡ refuse (not (leb (i + j) s.head.slots)) Refusal.NoNodes 0 → told w ≡ trim_refusal k l n (device_of s)
      unfolding trim_refusal too_many
      trim-last i j w e f p =
          let after : i + j ≡ length (extents (trimmed k l n (device_of s))) = ap₂ ◌+◌ e f ∙ sym (trim-nodes s h z k l n trim-inside.0 trim-inside.1) in
          p
          ∙ ap (λ (b : Bool). refuse b Refusal.NoNodes 0) (over-not (i + j) s.head.slots ∙ ap₂ ltb (sym many) after)
          ∙ sym (asked-passes s k (outside l n (device_of s)) v a x g _)
