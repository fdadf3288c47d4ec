use Rattle.std.proofs.Common.{◌≡◌, ◌&&◌, ◌∙◌, sym, leb, arith}
use Rattle.rules.specs.Answers.{refuse}
use Rattle.rules.specs.declared.Refusal.{Refusal}
use Rattle.state.specs.Seen.{lent_of, is-shaped, is-state}
use Rattle.blocks.specs.Totals.{state-filled, device-free}
use Rattle.starting.specs.Starts.{start_le}
use Rattle.refusals.specs.Refusals.{told, handed_on}
use Rattle.refusals.specs.Numbered.{number_refusal}
use Rattle.writable.specs.Meeting.{Writable, pieces_are, grows, few_meet, nodes_are}
use Rattle.writable.specs.Writing.{out_or_long, is-out_or_long, write-asked, write-pages, writable, write-nodes, write-short}
use Rattle.writable.proofs.write_verdict.Goals as goal
use Rattle.writable.proofs.write_verdict.Goals.{then-in_range, else-in_range, After-asked_verdict, In_ok-unless}

-- Range, then the number
asked : (c : After-asked_verdict) → let a = c.args in
    told c.asked_verdict.result
    ≡ refuse (out_or_long (lent_of a.s) (is-shaped a.s) (is-state a.s) a.l a.n) Refusal.Range (number_refusal a.s.head a.number)
asked c =
    let a = c.args in
    let i = c.in_range in
    let both : c.if-in_range.inside ≡ (i.result && leb a.n a.s.head.pages) =
    elim c.if-in_range.branch [
      | then-in_range w ↦ rw (w.inside-is, w.if-in_range.true)
      | else-in_range w ↦ rw (w.inside-is, w.if-in_range.false)
    ] in
    rw (is-out_or_long (lent_of a.s) (is-shaped a.s) (is-state a.s) a.l a.n i.result c.if-in_range.inside i.ensures both) at c.asked_verdict.ensures

-- what stands before 6 passes it
passes : (c : In_ok-unless) → let a = c.args in
    told c.asked_verdict.result ≡ refuse (out_or_long (lent_of a.s) (is-shaped a.s) (is-state a.s) a.l a.n) Refusal.Range (number_refusal a.s.head a.number)
    → Writable a.l a.n (lent_of a.s)
passes c asks =
    let a = c.args in
    let h = is-shaped a.s in
    let z = is-state a.s in
    writable (lent_of a.s) h z a.number a.l a.n a.room _ asks _ c.in_ok-asked_verdict.was
    _ (c.totals_of.ensures.free ∙ sym (device-free (lent_of a.s) h z)) _ c.unless.ensures _ c.in_ok-unless.was

pub returns-in_err-asked_verdict : goal.returns-in_err-asked_verdict
returns-in_err-asked_verdict c =
    let a = c.args in
    let asks = asked (goal.at.returns-in_err-asked_verdict c).After-asked_verdict in
    handed_on _ _ c.from_residual.ensures.1
    ∙ write-asked (lent_of a.s) (is-shaped a.s) (is-state a.s) a.number a.l a.n a.room _ asks _ c.in_err-asked_verdict.was

pub totals_of-requires : goal.totals_of-requires
totals_of-requires c = let a = c.args in state-filled (lent_of a.s) (is-shaped a.s) (is-state a.s)

pub returns-in_err-unless : goal.returns-in_err-unless
returns-in_err-unless c =
    let a = c.args in
    let h = is-shaped a.s in
    let z = is-state a.s in
    let asks = asked (goal.at.returns-in_err-unless c).After-asked_verdict in
    handed_on _ _ c.from_residual-in_err-unless.ensures.1
    ∙ write-pages (lent_of a.s) h z a.number a.l a.n a.room _ asks _ c.in_ok-asked_verdict.was
    _ (c.totals_of.ensures.free ∙ sym (device-free (lent_of a.s) h z)) _ c.unless.ensures _ c.in_err-unless.was

pub pieces_of-k-requires : goal.pieces_of-k-requires
pieces_of-k-requires c =
    let a = c.args in
    let first = start_le a.s.head.pages a.s.head.reserve a.s.head.blocks a.s.blk.now a.n a.m.from c.requires.from in
    (omega (arith, (is-shaped a.s).blocks), omega (arith, first))

pub nodes_after-requires : goal.nodes_after-requires
nodes_after-requires c =
    let a = c.args in
    let s = lent_of a.s in
    let at = goal.at.nodes_after-requires c in
    let w = passes at.In_ok-unless (asked at.After-asked_verdict) in
    let many = pieces_are a.l a.n s w _ _ c.requires.from (c.pieces_of-k.ensures a.l) in
    (few_meet a.l a.n s (is-shaped a.s) (is-state a.s) a.m c.requires, omega (arith, grows a.l a.n s w a.m c.requires, many))

pub returns-in_err-unless-2 : goal.returns-in_err-unless-2
returns-in_err-unless-2 c =
    let a = c.args in
    let s = lent_of a.s in
    let h = is-shaped a.s in
    let z = is-state a.s in
    let at = goal.at.returns-in_err-unless-2 c in
    let asks = asked at.After-asked_verdict in
    let w = passes at.In_ok-unless asks in
    let many = pieces_are a.l a.n s w _ _ c.requires.from (c.pieces_of-k.ensures a.l) in
    handed_on _ _ c.from_residual-in_err-unless-2.ensures.1
    ∙ write-nodes s h z a.number a.l a.n a.room _ asks _ c.in_ok-asked_verdict.was
    _ (c.totals_of.ensures.free ∙ sym (device-free s h z)) _ c.unless.ensures _ c.in_ok-unless.was
    _ (nodes_are a.l a.n s w a.m _ _ c.requires many c.nodes_after.ensures) _ c.unless-2.ensures _ c.in_err-unless-2.was

pub returns : goal.returns
returns c =
    let a = c.args in
    let s = lent_of a.s in
    let h = is-shaped a.s in
    let z = is-state a.s in
    let at = goal.at.returns c in
    let asks = asked at.After-asked_verdict in
    let w = passes at.In_ok-unless asks in
    let many = pieces_are a.l a.n s w _ _ c.requires.from (c.pieces_of-k.ensures a.l) in
    write-short s h z a.number a.l a.n a.room _ asks _ c.in_ok-asked_verdict.was
    _ (c.totals_of.ensures.free ∙ sym (device-free s h z)) _ c.unless.ensures _ c.in_ok-unless.was
    _ (nodes_are a.l a.n s w a.m _ _ c.requires many c.nodes_after.ensures) _ c.unless-2.ensures _ c.in_ok-unless-2.was
    _ _ many c.unless-3.ensures
