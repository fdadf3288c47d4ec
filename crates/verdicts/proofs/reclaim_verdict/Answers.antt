use Rattle.std.proofs.Common.{◌∙◌}
use Rattle.state.specs.Seen.{lent_of, is-shaped, is-state}
use Rattle.refusals.specs.Refusals.{handed_on}
use Rattle.verdicts.specs.Reclaiming.{victim_record, reclaim-nothing, reclaim-short}
use Rattle.verdicts.proofs.reclaim_verdict.Goals as goal

pub stale_of-stale-requires : goal.stale_of-stale-requires
stale_of-stale-requires c = let a = c.args in victim_record (lent_of a.s) (is-shaped a.s) (is-state a.s) a.v c.requires

pub valid_of-copies-requires : goal.valid_of-copies-requires
valid_of-copies-requires c = let a = c.args in (victim_record (lent_of a.s) (is-shaped a.s) (is-state a.s) a.v c.requires).0

pub returns-in_err-unless : goal.returns-in_err-unless
returns-in_err-unless c =
    let a = c.args in
    handed_on _ _ c.from_residual.ensures.1
    ∙ reclaim-nothing (lent_of a.s) (is-shaped a.s) (is-state a.s) a.v c.requires a.room _ c.stale_of-stale.ensures _ c.unless.ensures _ c.in_err-unless.was

pub returns : goal.returns
returns c =
    let a = c.args in
    reclaim-short (lent_of a.s) (is-shaped a.s) (is-state a.s) a.v c.requires a.room _ c.stale_of-stale.ensures _ c.unless.ensures _ c.in_ok-unless.was
    _ _ c.valid_of-copies.ensures c.unless-2.ensures
