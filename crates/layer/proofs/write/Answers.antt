use Rattle.std.proofs.Common.{◌∙◌, subst}
use Rattle.rules.specs.Lent.{lent, Lent}
use Rattle.rules.specs.Calls.{Call, refused}
use Rattle.refusals.specs.Refusals.{handed, lent-refuses}
use Rattle.refusals.specs.Accepts.{write-room}
use Rattle.writable.specs.Meeting.{Meets}
use Rattle.layer.specs.Held.{held-refuses, held-ready}
use Rattle.layer.proofs.write.Goals as goal

pub returns-in_err-s : goal.returns-in_err-s
unfolding refused
returns-in_err-s c =
    let a = c.args in
    rw (handed _ _ c.from_residual.ensures.1)
    (lent-refuses (Call.write a.number a.l a.n a.out.now) (lent a.h a.ext.now a.blk.now a.spare.now) _ _ c.lent_verdict.ensures.told c.in_err-s.was)

pub returns-in_err-write_verdict : goal.returns-in_err-write_verdict
unfolding refused
returns-in_err-write_verdict c =
    let a = c.args in
    rw (handed _ _ c.from_residual-in_err-write_verdict.ensures.1)
    (held-refuses (Call.write a.number a.l a.n a.out.now) _ c.in_ok-s.s c.in_ok-s.ensures.seen _ (c.write_verdict.ensures ∙ write-room a.number a.l a.n a.out.now _) _ c.in_err-write_verdict.was)

pub place_pages-requires : goal.place_pages-requires
place_pages-requires c =
    let a = c.args in
    let e = c.in_ok-s.ensures.seen in (
      held-ready (Call.write a.number a.l a.n a.out.now) _ c.in_ok-s.s e _ (c.write_verdict.ensures ∙ write-room a.number a.l a.n a.out.now _) _ c.in_ok-write_verdict.was,
      subst (λ (x : Lent). Meets a.l a.n x c.meeting_of-m.result) e c.meeting_of-m.ensures,
    )

-- what the change leaves is what the rules give, as an accepted write
pub returns : goal.returns
returns c = c.place_pages.ensures
