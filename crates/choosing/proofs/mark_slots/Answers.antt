use Rattle.std.proofs.Common.{◌+◌, arith, rules}
use Rattle.choosing.specs.Ranks.{marks-none, marks-more, marks-over}
use Rattle.choosing.proofs.mark_slots.Goals as goal

pub loop-i-init : goal.loop-i-init
loop-i-init c = (search rules, marks-none _ _ _ c.args.marks.now c.requires.by_index_2)

-- the slots passed over lie elsewhere
pub loop-i-preserved-then-free-gt0 : goal.loop-i-preserved-then-free-gt0
loop-i-preserved-then-free-gt0 c =
    let l = c.loop-i in
    let a = c.args in
    let free = c.passed_over-free in (
      search rules,
      marks-over a.ext.now l.i free.result a.v.pages a.v.number l.marks
          (λ j h. c.requires.by_index (l.i + j) (omega arith)) (omega arith) free.ensures.1 l.invariant.1,
    )

pub loop-i-preserved : goal.loop-i-preserved
loop-i-preserved c =
    let l = c.loop-i in
    let a = c.args in
    let marked = c.mark_slot in (
      search rules,
      marks-more a.ext.now l.i a.v.pages a.v.number l.marks marked.new.marks
          (c.requires.by_index l.i (omega arith)) (omega arith) l.invariant.1 marked.ensures,
    )
