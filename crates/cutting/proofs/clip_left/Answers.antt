use Rattle.std.proofs.Common.{ap, ◌∙◌, arith}
use Rattle.map.specs.Clip.{on_from, clip_left-none, left-put}
use Rattle.cutting.proofs.clip_left.Goals as goal

pub returns-then-used-z : goal.returns-then-used-z
returns-then-used-z c =
    let a = c.args in
    clip_left-none a.ext.now a.used c.requires.0 _ _ (omega arith)

pub returns : goal.returns
returns c =
    let a = c.args in
    left-put a.ext.now a.used c.requires.0 a.e a.z _ _ (omega arith) (c.on_from.ensures ∙ ap (on_from a.e) c.slot_at-x.ensures) c.put_slot.ensures
