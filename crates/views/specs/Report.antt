-- A report's answer, from the counts that the code adds up over the block records.
use Rattle.std.specs.Prelude.{true, ◌≡◌}
use Rattle.std.proofs.Math.Path.{refl, sym}
use Rattle.std.proofs.Common.{◌∙◌}
use mathlib.Core.List.{[], ◌∷◌}
use Rattle.rules.specs.Lent.{Lent}
use Rattle.rules.specs.Shape.{shaped}
use Rattle.rules.specs.Sound.{sound}
use Rattle.rules.specs.Answers.{said, outcome}
use Rattle.rules.specs.Calls.{Call, over, call}
use Rattle.rules.specs.Views.{reporting}
use Rattle.laws.specs.Sound.{Shaped, SoundState}
use Rattle.laws.specs.Shapes.{shaped-true}
use Rattle.laws.specs.Sounds.{sound-state}
use Rattle.laws.specs.Views.{view-accepts, report-view}
use Rattle.laws.specs.Refused.{tested_plain}
use Rattle.blocks.specs.Totals.{Filled, Totalled, state-filled, device-free, device-live, device-stale}
use Rattle.rules.specs.declared.Counted.{Counted}

module _ (s : Lent) (e : (shaped s ≡ true) × (sound s ≡ true)) where
  shape : Shaped s
  shape = shaped-true s e.0

  is-sound : SoundState s
  is-sound = sound-state s shape e.1

  pub report-filled : Filled s.head s.block_words
  report-filled = state-filled s shape is-sound

  pub report-counts : (t : Counted) → Totalled s.head s.block_words t
      → outcome (said 0 (t.free ∷ t.live ∷ t.stale ∷ []) s.head) s.extent_words s.block_words s.spare [] ≡ call Call.report s
  unfolding over
  report-counts t w =
      view-accepts reporting s (tested_plain reporting.refusal s e.0 e.1) (t.free ∷ t.live ∷ t.stale ∷ []) []
      (λ i. (w.free ∙ sym (device-free s shape is-sound)) i ∷ (w.live ∙ sym (device-live s shape is-sound)) i ∷ (w.stale ∙ sym (device-stale s shape is-sound)) i ∷ []) refl
      ∙ sym (report-view s)
