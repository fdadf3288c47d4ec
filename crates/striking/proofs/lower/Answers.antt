use Rattle.std.proofs.Common.{ap, arith, rules}
use Rattle.rules.specs.declared.Extent.{Extent}
use Rattle.map.specs.Sound.{sound-rising}
use Rattle.map.specs.Halved.{first_below}
use Rattle.striking.specs.Lowered.{lowered-start, lowered-more, lowered-end, lowered-enough}
use Rattle.striking.proofs.lower.Goals as goal

pub loop-i-init : goal.loop-i-init
loop-i-init c =
    let a = c.args in
    let sound = c.requires.0.sound in (
      first_below a.ext.now a.used a.l (sound-rising a.ext.now a.used sound) a.first c.requires.1,
      lowered-start a.pages a.l a.e a.ext.now a.used a.first a.blk.now sound c.requires.1,
    )

pub returns-then-e-x : goal.returns-then-e-x
returns-then-e-x c =
    let a = c.args in
    let o = c.loop-i in
    lowered-end a.pages a.l a.e a.ext.now a.used o.i a.blk.now o.blk c.requires.0.sound o.invariant.0
    (λ h. omega (arith, ap (λ (x : Extent). x.logical) c.slot_at-x.ensures)) o.invariant.1

pub lower_slot-requires : goal.lower_slot-requires
lower_slot-requires c =
    let a = c.args in
    let o = c.loop-i in
    let p = c.requires.0 in
    let size = o.invariant.1.size in
    rw c.slot_at-x.ensures (
      p.some,
      omega (arith, p.inside o.i (omega arith)),
      lowered-enough a.pages a.l a.e a.ext.now a.used o.i a.blk.now o.blk p (omega arith) o.invariant.1,
    )

pub loop-i-preserved : goal.loop-i-preserved
loop-i-preserved c = (search rules, lowered-more _ _ _ _ _ _ _ _ c.loop-i.invariant.1 (rw c.slot_at-x.ensures at c.lower_slot.ensures))
