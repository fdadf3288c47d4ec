use Rattle.std.proofs.Common.{◌≡◌, length, take, get_or-take, length-take-le, arith}
use Rattle.reclaiming.specs.Labels.{labels-start, labels_next}
use Rattle.reclaiming.proofs.copy_labels.Goals as goal

pub loop-i-init : goal.loop-i-init
loop-i-init c = labels-start c.args.to (take c.args.k c.args.out.now) c.args.spare.now

pub loop-i-preserved : goal.loop-i-preserved
loop-i-preserved c =
    let l = c.loop-i in
    let a = c.args in
    let few : length (take a.k a.out.now) ≡ a.k = length-take-le a.k a.out.now (omega arith) in
    let same = get_or-take a.k a.out.now l.i 0 (omega arith) in
    labels_next a.to (take a.k a.out.now) a.spare.now l.spare l.i (omega arith) (omega (arith, same, c.requires.2 l.i (omega arith))) l.invariant
