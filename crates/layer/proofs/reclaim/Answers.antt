use Rattle.std.proofs.Common.{◌∙◌, ap}
use Rattle.rules.specs.Lent.{lent, Lent}
use Rattle.rules.specs.Calls.{Call, refused}
use Rattle.state.specs.Seen.{is-shaped, is-state}
use Rattle.refusals.specs.Refusals.{handed, lent-refuses}
use Rattle.refusals.specs.Accepts.{reclaim-room}
use Rattle.rules.specs.Device.{device_of}
use Rattle.rules.specs.Reclaim.{victim}
use Rattle.verdicts.specs.Reclaiming.{state-records, found-victim}
use Rattle.layer.specs.Held.{held-refuses, held-ready}
use Rattle.layer.proofs.reclaim.Goals as goal

pub returns-in_err-s : goal.returns-in_err-s
unfolding refused
returns-in_err-s c =
    let a = c.args in
    rw (handed _ _ c.from_residual.ensures.1)
    (lent-refuses (Call.reclaim a.out.now) (lent a.h a.ext.now a.blk.now a.spare.now) _ _ c.lent_verdict.ensures.told c.in_err-s.was)

pub victim_of-victim-requires : goal.victim_of-victim-requires
victim_of-victim-requires c = let s = c.in_ok-s.s in state-records _ (is-shaped s) (is-state s)

pub reclaim_verdict-requires : goal.reclaim_verdict-requires
reclaim_verdict-requires c = let s = c.in_ok-s.s in c.victim_of-victim.ensures ∙ found-victim _ (is-shaped s) (is-state s)

pub returns-in_err-reclaim_verdict : goal.returns-in_err-reclaim_verdict
unfolding refused
returns-in_err-reclaim_verdict c =
    let a = c.args in
    rw (handed _ _ c.from_residual-in_err-reclaim_verdict.ensures.1)
    (held-refuses (Call.reclaim a.out.now) _ c.in_ok-s.s c.in_ok-s.ensures.seen _ (c.reclaim_verdict.ensures ∙ reclaim-room a.out.now _) _ c.in_err-reclaim_verdict.was)

pub empty_victim-requires-clause-ready : goal.empty_victim-requires-clause-ready
empty_victim-requires-clause-ready c =
    let a = c.args in
    held-ready (Call.reclaim a.out.now) _ c.in_ok-s.s c.in_ok-s.ensures.seen _ (c.reclaim_verdict.ensures ∙ reclaim-room a.out.now _) _ c.in_ok-reclaim_verdict.was

pub empty_victim-requires-clause-v_value : goal.empty_victim-requires-clause-v_value
empty_victim-requires-clause-v_value c =
    let s = c.in_ok-s.s in
    c.victim_of-victim.ensures ∙ found-victim _ (is-shaped s) (is-state s) ∙ ap (λ (x : Lent). victim (device_of x)) c.in_ok-s.ensures.seen
