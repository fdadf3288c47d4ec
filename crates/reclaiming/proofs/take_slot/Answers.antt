use Rattle.std.proofs.Common.{ℕ, ◌+◌, ◌*◌, ◌/◌, ◌≢◌, get_or, sym, ap, ◌∙◌, subst, arith}
use Rattle.rules.specs.Extents.{extent, slot, put_slot}
use Rattle.rules.specs.declared.Extent.{Extent}
use Rattle.laws.specs.Norm.{move}
use Rattle.reclaiming.specs.Remapped.{ranked_page, place_here, place_else}
use Rattle.reclaiming.specs.Slot.{Pushed, slot-moved, pushed_apart, pushed_there}
use Rattle.reclaiming.proofs.take_slot.Goals as goal
use Rattle.reclaiming.proofs.take_slot.Goals.{then-w-i, else-w-i}

pub returns-then-o-v : goal.returns-then-o-v
returns-then-o-v c =
    let a = c.args in
    let v = a.v in
    let ranks = a.ranks.now in
    let e = c.slot_at-e.result in
    let away = c.offset_of-o.ensures c.requires.movable.0.some in
    let at : ℕ → ℕ = λ k. a.r * v.pages + get_or ranks k 0 in
    let here = place_here v.pages ranks v.number a.r e.physical (away.block (omega arith)) ∙ ap at (away.offset (omega arith)) in
    let P : Extent → Type 0 = λ x. Pushed v.pages a.ext.now a.w x c.push_slot.new.ext c.push_slot.result in
    subst (λ (x : Extent). P (move (ranked_page v.pages ranks v.number a.r) x)) c.slot_at-e.ensures
    (subst (λ (p : ℕ). P (extent e.logical p e.count)) (sym here) c.push_slot.ensures)

pub returns : goal.returns
returns c =
    let a = c.args in
    let v = a.v in
    let ranks = a.ranks.now in
    let apart = c.requires.movable.1 in
    let e = slot a.ext.now a.i in
    let away = c.offset_of-o.ensures c.requires.movable.0.some in
    let other = subst (λ (x : Extent). x.physical / v.pages ≢ v.number) c.slot_at-e.ensures (away.other (omega arith)) in
    subst (λ (x : Extent). Pushed v.pages a.ext.now a.w x c.if-w-i.ext (a.w + 1))
    (slot-moved (ranked_page v.pages ranks v.number a.r) a.ext.now a.i e.physical (sym (place_else v.pages ranks v.number a.r e.physical other)))
    (elim c.if-w-i.branch [
      | then-w-i w ↦
          let put = w.put_slot.ensures ∙ ap (put_slot a.ext.now a.w) c.slot_at-e.ensures in
          rw w.ext-is (pushed_apart v.pages a.ext.now w.put_slot.new.ws a.w e (omega arith) apart put)
      | else-w-i w ↦ rw w.ext-is (pushed_there v.pages a.ext.now a.w a.i (omega arith) apart)
    ])
