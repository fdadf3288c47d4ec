-- The fill, the labels below it, and then the scan from it on, which decides.
use Rattle.std.proofs.Common.{sym, ◌∙◌, ap, not, length, arith}
use Rattle.std.proofs.lemmas.Bool.{leb-true}
use Rattle.words.specs.Says.{says-no}
use Rattle.blocks.specs.Block.{labels-no, labels-says}
use Rattle.blocks.proofs.block_ok.Goals as goal
use Rattle.blocks.proofs.block_ok.Goals.{then-f-part, else-f-part}

pub returns-then-all_below : goal.returns-then-all_below
returns-then-all_below c =
    let a = c.args in
    elim c.if-f-part.branch [
      | then-f-part w ↦ labels-says a.fill a.top a.part.now (omega arith) w.all_below.result c.all_are.result
          w.all_below.ensures (ap not (sym w.value-is ∙ c.if-all_below.true)) c.all_are.ensures
      | else-f-part w ↦ absurd (omega (arith, leb-true a.fill (length a.part.now) (sym w.value-is ∙ c.if-all_below.true)))
    ]

pub returns-else-all_below : goal.returns-else-all_below
returns-else-all_below c =
    let a = c.args in
    rw c.if-all_below.false (says-no (elim c.if-f-part.branch [
      | then-f-part w ↦ labels-no a.fill a.top a.part.now (omega arith) w.all_below.result w.all_below.ensures (ap not (sym w.value-is ∙ c.if-all_below.false))
      | else-f-part w ↦ λ g. omega (arith, g.full)
    ]))
