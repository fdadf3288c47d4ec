use Rattle.std.proofs.Common.{◌+◌, ◌/◌, refl, arith}
use Rattle.map.specs.Halved.{halved_up, halved_down, halved-end}
use Rattle.map.proofs.in_use.InUse.first_after.Goals as goal

pub loop-left-preserved-then-end_of-page : goal.loop-left-preserved-then-end_of-page
loop-left-preserved-then-end_of-page c =
    let o = c.loop-left in
    let a = c.args in
    let middle = o.first + o.left / 2 in (
      omega arith,
      halved_up a.self.words.now a.self.used a.self.rising a.page o.first o.left o.invariant.1 middle (omega arith) (omega arith) (omega arith) _ _ refl (omega arith),
    )

pub loop-left-preserved : goal.loop-left-preserved
loop-left-preserved c =
    let o = c.loop-left in
    let a = c.args in
    let middle = o.first + o.left / 2 in (
      omega arith,
      halved_down a.self.words.now a.self.used a.self.rising a.page o.first o.left o.invariant.1 middle (omega arith) (omega arith) (omega arith) _ refl,
    )

pub returns : goal.returns
returns c =
    let o = c.loop-left in
    halved-end _ _ _ _ o.left o.invariant.1 (omega arith)
