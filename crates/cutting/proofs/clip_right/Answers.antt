use Rattle.std.proofs.Common.{ap, ◌∙◌, arith}
use Rattle.map.specs.Clip.{up_to, right-none, right-put}
use Rattle.cutting.proofs.clip_right.Goals as goal

pub returns-then-a-lt1 : goal.returns-then-a-lt1
returns-then-a-lt1 c =
    let a = c.args in
    right-none a.ext.now a.used c.requires.0 _ _ (omega arith)

pub returns : goal.returns
returns c =
    let a = c.args in
    right-put a.ext.now a.used c.requires.0 a.l a.a _ _ (omega arith) (omega arith) (c.up_to.ensures ∙ ap (up_to a.l) c.slot_at-x.ensures) c.put_slot.ensures
