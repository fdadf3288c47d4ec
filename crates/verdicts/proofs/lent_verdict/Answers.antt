use Rattle.std.proofs.Common.{◌≡◌, sym, true, ◌∙◌}
use Rattle.rules.specs.Lent.{lent}
use Rattle.rules.specs.Shape.{shaped}
use Rattle.refusals.specs.Refusals.{handed_on, is-passed, is-not, lent-shape, lent-damaged, lent-sound}
use Rattle.verdicts.proofs.lent_verdict.Goals as goal
use Rattle.verdicts.proofs.lent_verdict.Goals.{In_ok-unless}

fits : (c : In_ok-unless) → let a = c.args in shaped (lent a.h a.ext.now a.blk.now a.spare.now) ≡ true
unfolding shaped
fits c = sym c.shape_ok.ensures ∙ is-passed _ _ _ c.unless.ensures _ c.in_ok-unless.was

pub returns-in_err-unless-clause-told : goal.returns-in_err-unless-clause-told
unfolding shaped
returns-in_err-unless-clause-told c =
    let no = is-not _ _ _ c.unless.ensures _ c.in_err-unless.was in
    handed_on _ _ c.from_residual.ensures.1 ∙ no.1 ∙ lent-shape _ (sym c.shape_ok.ensures ∙ no.0)

pub is_sound-requires : goal.is_sound-requires
unfolding shaped
is_sound-requires c = fits (goal.at.is_sound-requires c).In_ok-unless

pub returns-in_err-unless-2-clause-told : goal.returns-in_err-unless-2-clause-told
returns-in_err-unless-2-clause-told c =
    let no = is-not _ _ _ c.unless-2.ensures _ c.in_err-unless-2.was in
    handed_on _ _ c.from_residual-in_err-unless-2.ensures.1 ∙ no.1
    ∙ lent-damaged _ (fits (goal.at.returns-in_err-unless-2-clause-told c).In_ok-unless) (sym c.is_sound.ensures ∙ no.0)

pub invariant_of-result : goal.invariant_of-result
invariant_of-result c =
    record {
      shaped = fits (goal.at.invariant_of-result c).In_ok-unless;
      sound = sym c.is_sound.ensures ∙ is-passed _ _ _ c.unless-2.ensures _ c.in_ok-unless-2.was;
    }

pub returns-clause-told : goal.returns-clause-told
returns-clause-told c =
    lent-sound _ (fits (goal.at.returns-clause-told c).In_ok-unless)
    (sym c.is_sound.ensures ∙ is-passed _ _ _ c.unless-2.ensures _ c.in_ok-unless-2.was)
