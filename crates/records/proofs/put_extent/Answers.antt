use Rattle.std.proofs.Common.{◌∙◌, sym, arith}
use Rattle.records.specs.LaidLaws.{put-set, put-none}
use Rattle.records.proofs.put_extent.Goals as goal

pub returns-then-i-words : goal.returns-then-i-words
returns-then-i-words c =
    let a = c.args in
    c.put_slot.ensures ∙ put-set a.words.now a.i a.e (omega (arith, c.if-i-words.true))

pub returns-else-i-words : goal.returns-else-i-words
returns-else-i-words c =
    let a = c.args in
    sym (put-none a.words.now a.i a.e (omega (arith, c.if-i-words.false)))
