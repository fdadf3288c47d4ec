use Rattle.std.proofs.Common.{◌≡◌, ◌∙◌, [], ◌∷◌, refl, subst}
use Rattle.rules.specs.Lent.{lent, Lent}
use Rattle.rules.specs.Answers.{said, outcome}
use Rattle.rules.specs.Calls.{Call, refused, call}
use Rattle.state.specs.Seen.{lent_of}
use Rattle.refusals.specs.Refusals.{handed, lent-refuses}
use Rattle.refusals.specs.Accepts.{read-room}
use Rattle.views.specs.Reads.{read_answer}
use Rattle.layer.specs.Held.{held-refuses, held-ready}
use Rattle.layer.proofs.read.Goals as goal

pub returns-in_err-s : goal.returns-in_err-s
unfolding refused
returns-in_err-s c =
    let a = c.args in
    rw (handed _ _ c.from_residual.ensures.1)
    (lent-refuses (Call.read a.l a.n a.out.now) (lent a.h a.ext.now a.blk.now a.spare.now) _ _ c.lent_verdict.ensures.told c.in_err-s.was)

pub returns-in_err-read_verdict : goal.returns-in_err-read_verdict
unfolding refused
returns-in_err-read_verdict c =
    let a = c.args in
    rw (handed _ _ c.from_residual-in_err-read_verdict.ensures.1)
    (held-refuses (Call.read a.l a.n a.out.now) _ c.in_ok-s.s c.in_ok-s.ensures.seen _ (c.read_verdict.ensures ∙ read-room a.l a.n a.out.now _) _ c.in_err-read_verdict.was)

pub list_pieces-count-requires : goal.list_pieces-count-requires
list_pieces-count-requires c =
    let a = c.args in
    let s = c.in_ok-s.s in
    (held-ready (Call.read a.l a.n a.out.now) (lent_of s) s refl _ (c.read_verdict.ensures ∙ read-room a.l a.n a.out.now _) _ c.in_ok-read_verdict.was, rw c.of.ensures at c.first_after-first.ensures)

pub returns : goal.returns
returns c =
    let a = c.args in
    let s = c.in_ok-s.s in
    let accepted = held-ready (Call.read a.l a.n a.out.now) (lent_of s) s refl _ (c.read_verdict.ensures ∙ read-room a.l a.n a.out.now _) _ c.in_ok-read_verdict.was in
    let k = c.list_pieces-count in
    subst (λ (x : Lent). outcome (said 0 (k.result ∷ []) x.head) x.extent_words x.block_words x.spare k.new.out ≡ call (Call.read a.l a.n a.out.now) x)
    c.in_ok-s.ensures.seen (read_answer a.l a.n a.out.now (lent_of s) accepted _ _ k.ensures)
