use Rattle.std.proofs.Common.{◌≡◌, true, sym, ap, ◌∙◌, arith}
use Rattle.rules.specs.declared.Extent.{Extent}
use Rattle.reclaiming.specs.Slot.{joins_last, Last, joins-last, pushed_joined, push-apart, pushed_apart}
use Rattle.reclaiming.proofs.push_slot.Goals as goal
use Rattle.reclaiming.proofs.push_slot.Goals.{Then-joins_last}

joined : (c : Then-joins_last) → joins_last c.args.n c.args.ext.now c.args.w c.args.x ≡ true
joined c = sym c.joins_last.ensures ∙ c.if-joins_last.true

meets : (c : Then-joins_last) → Last c.args.n c.args.ext.now c.args.w c.args.x
meets c = joins-last c.args.n c.args.ext.now c.args.w c.args.x (joined c)

pub overflow_sub-at : goal.overflow_sub-at
overflow_sub-at c = (meets c).some

pub overflow_add-count : goal.overflow_add-count
overflow_add-count c =
    let last = meets (goal.at.overflow_add-count c).Then-joins_last in
    let is = c.slot_at-last.ensures in
    omega (arith, last.logical, ap (λ (e : Extent). e.logical) is, ap (λ (e : Extent). e.count) is)

pub returns-then-joins_last : goal.returns-then-joins_last
returns-then-joins_last c =
    let a = c.args in
    pushed_joined a.n a.ext.now c.put_slot.new.ws a.w a.x c.slot_at-last.result (omega arith) (joined (goal.at.returns-then-joins_last c).Then-joins_last)
    c.slot_at-last.ensures c.put_slot.ensures

pub returns : goal.returns
returns c =
    let a = c.args in
    pushed_apart a.n a.ext.now c.put_slot-2.new.ws a.w a.x (omega arith)
    (push-apart a.n a.ext.now a.w a.x (sym c.joins_last.ensures ∙ c.if-joins_last.false)) c.put_slot-2.ensures
