use Rattle.std.proofs.Common.{◌+◌, ◌%◌, ◌≤◌, sym, arith}
use Rattle.choosing.specs.Ranks.{marked_else, marked-put}
use Rattle.choosing.proofs.mark_slot.Goals as goal

pub returns-then-o-v : goal.returns-then-o-v
returns-then-o-v c =
    let v = c.args.v in
    let e = c.slot_at-e.result in
    let away = c.offset_of-o.ensures (omega arith) in
    rw (sym c.slot_at-e.ensures) (sym (marked_else e v.pages v.number c.args.marks.now (away.other (omega arith))))

pub slice_bounds-fill-end : goal.slice_bounds-fill-end
slice_bounds-fill-end c =
    let v = c.args.v in
    let e = c.slot_at-e.result in
    let away = c.offset_of-o.ensures (omega arith) in
    let fits : e.physical % v.pages + e.count ≤ v.pages = rw c.slot_at-e.ensures c.requires.i_bound in
    omega (arith, away.offset (omega arith), fits)

pub returns : goal.returns
returns c =
    let v = c.args.v in
    let e = c.slot_at-e.result in
    let away = c.offset_of-o.ensures (omega arith) in
    let at = away.offset (omega arith) in
    let fits : e.physical % v.pages + e.count ≤ v.pages = rw c.slot_at-e.ensures c.requires.i_bound in
    rw (sym c.slot_at-e.ensures) (marked-put e v.pages v.number _ c.args.marks.now c.fill.new.self (away.block (omega arith)) at (omega (arith, at, fits)) (omega arith)
    (c.fill.ensures.after (λ y h. h)))
