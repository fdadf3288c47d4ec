use Rattle.std.proofs.Common.{sym, ap, ◌∙◌, arith, le-ltb}
use Rattle.rules.specs.Extents.{joinable}
use Rattle.rules.specs.declared.Extent.{Extent}
use Rattle.reclaiming.specs.Slot.{joins-none, joins-some}
use Rattle.reclaiming.proofs.joins_last.Goals as goal

pub returns-then-w-gt0 : goal.returns-then-w-gt0
returns-then-w-gt0 c =
    let a = c.args in
    c.joins.ensures ∙ ap (λ (e : Extent). joinable a.n e a.x) c.slot_at.ensures ∙ sym (joins-some a.n a.ext.now a.w a.x (omega arith))

pub returns-else-w-gt0 : goal.returns-else-w-gt0
returns-else-w-gt0 c = le-ltb 0 c.args.w (omega arith) ∙ joins-none c.args.n c.args.ext.now c.args.w c.args.x (omega arith)
