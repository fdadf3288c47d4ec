use Rattle.std.proofs.Common.{◌≡◌, length, refl, sym, ◌∙◌, arith, rules, add-one}
use Rattle.records.specs.Laid.{laid}
use Rattle.records.specs.LaidLaws.{laid-step, laid_end}
use Rattle.records.proofs.flatten.Goals as goal

pub loop-i-init : goal.loop-i-init
unfolding laid
loop-i-init c = (search rules, refl)

pub loop-i-preserved : goal.loop-i-preserved
loop-i-preserved c =
    let o = c.loop-i in
    let step = laid-step c.args.recs.now o.i o.words c.loop-i-test.true in
    (search rules, rw c.put_extent.ensures (rw add-one (sym step ∙ o.invariant.1)))

pub returns : goal.returns
returns c =
    let recs = c.args.recs.now in
    let o = c.loop-i in
    let at-end : o.i ≡ length recs = omega arith in
    sym (laid_end recs o.words) ∙ (rw at-end at o.invariant.1)
