use Rattle.std.proofs.Common.{arith}
use Rattle.state.specs.Seen.{lent_of, is-shaped, is-state}
use Rattle.map.specs.Around.{starts_le}
use Rattle.writable.specs.Meeting.{first-page-is, joined_is}
use Rattle.writable.proofs.meeting_of.Goals as goal

pub start_of-start-requires : goal.start_of-start-requires
start_of-start-requires c =
    let s = c.args.s in
    let h = is-shaped s in
    record { size = omega (arith, h.blocks); blocks-few = h.sizes.b-high; pages-few = h.sizes.n-high; full = (is-state s).full }

pub joins_left-joined-requires : goal.joins_left-joined-requires
joins_left-joined-requires c =
    let a = c.args in
    let few = starts_le a.l a.s.ext.now a.s.head.used _ (rw c.of.ensures at c.around-sides.ensures.before) in
    (omega (arith, few, (is-shaped a.s).extents, (is-state a.s).few), (is-shaped a.s).sizes.n-low)

pub returns : goal.returns
returns c =
    let a = c.args in
    let s = lent_of a.s in
    let start = c.start_of-start in
    let sides = rw c.of.ensures at c.around-sides.ensures in
    record {
      sides = sides;
      from = start.ensures.block;
      joined = λ w. joined_is a.l a.n s w _ _ _ (first-page-is a.l a.n s w start.result start.ensures) sides.before c.joins_left-joined.ensures;
    }
