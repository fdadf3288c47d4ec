use Rattle.std.proofs.Common.{◌∙◌, [], ap, arith, length}
use Rattle.reading.specs.Pieces.{pieces_left}
use Rattle.reading.specs.Told.{told-start, told-more, told-end}
use Rattle.reading.proofs.list_found.Goals as goal

pub loop-piece-init : goal.loop-piece-init
loop-piece-init c =
    let all = ap pieces_left c.into_iter-piece-iterator.ensures.into_iter_gives ∙ c.new-piece-items.ensures in
    told-start _ _ (omega (arith, ap length all))

pub loop-piece-preserved : goal.loop-piece-preserved
loop-piece-preserved c =
    let o = c.loop-piece in
    told-more _ c.args.out.now o.yielded _ _ o.k o.out o.invariant c.in-Some.piece _ c.in-Some.ensures.steps c.put_slot.ensures

pub returns : goal.returns
returns c =
    let o = c.loop-piece in
    let all = ap pieces_left c.into_iter-piece-iterator.ensures.into_iter_gives ∙ c.new-piece-items.ensures in
    rw (← all) (told-end _ c.args.out.now o.yielded _ [] o.k o.out o.invariant c.in-None.ensures.steps.0)
