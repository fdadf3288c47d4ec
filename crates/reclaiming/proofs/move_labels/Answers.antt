use Rattle.reclaiming.specs.Labels.{labels-moved}
use Rattle.reclaiming.proofs.move_labels.Goals as goal

pub returns : goal.returns
returns c =
    let a = c.args in
    labels-moved a.n a.r a.v a.out.now a.k a.spare.now c.copy_labels.new.spare c.fill.new.self
    c.requires c.copy_labels.ensures (c.fill.ensures.after (λ y h. h))
