use Rattle.std.proofs.Common.{ap, ◌∙◌, arith}
use Rattle.rules.specs.Extents.{slots_from}
use Rattle.map.specs.Clip.{up_to, on_from, split_set}
use Rattle.cutting.proofs.split.Goals as goal

pub returns : goal.returns
unfolding slots_from
returns c =
    let a = c.args in
    split_set a.ext.now a.used c.requires.0 a.l a.e a.i (omega arith) (omega arith) _ _
    (c.up_to-left.ensures ∙ ap (up_to a.l) c.slot_at-x.ensures) (c.on_from-right.ensures ∙ ap (on_from a.e) c.slot_at-x.ensures) _
    c.insert.ensures _ c.put_slot.ensures
