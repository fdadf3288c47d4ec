use Rattle.std.proofs.Common.{◌≡◌, ℕ, length, ap, ◌∙◌, subst, arith, rules}
use Rattle.map.specs.Padded.{padded}
use Rattle.reclaiming.specs.Remapped.{ranked_page}
use Rattle.reclaiming.specs.Slot.{Packed, packed_start, packed_step, packed_length, packed_end, moved-map}
use Rattle.reclaiming.specs.Moves.{moves_movable, packed_apart, packed_over}
use Rattle.reclaiming.proofs.move_map.Goals as goal

pub loop-i-init : goal.loop-i-init
loop-i-init c =
    let a = c.args in
    (search rules, packed_start (ranked_page a.v.pages a.ranks.now a.v.number a.r) a.v.pages a.ext.now)

-- the slots that stay are as they were
pub loop-i-preserved-then-k-gt0 : goal.loop-i-preserved-then-k-gt0
loop-i-preserved-then-k-gt0 c =
    let a = c.args in
    let l = c.loop-i in
    let k = c.stay-k in
    let e : l.w ≡ l.i = k.ensures.1 (omega arith) in
    let packed = subst (λ (w : ℕ). Packed (ranked_page a.v.pages a.ranks.now a.v.number a.r) a.v.pages a.ext.now l.i l.ext w) e l.invariant.1 in (
      search rules,
      rw e (packed_over a.v.pages a.v.number a.r a.ext.now a.used a.ranks.now c.requires l.ext l.i k.result k.ensures.0 k.ensures.2 packed),
    )

pub take_slot-w-requires-clause-movable : goal.take_slot-w-requires-clause-movable
take_slot-w-requires-clause-movable c =
    let a = c.args in
    let l = c.loop-i in
    let ranks = a.ranks.now in (
      moves_movable a.v.pages a.v.number a.r a.ext.now a.used ranks c.requires,
      packed_apart a.v.pages a.v.number a.r a.ext.now a.used ranks c.requires l.ext l.i l.w l.invariant.1 (omega arith),
    )

pub loop-i-preserved : goal.loop-i-preserved
loop-i-preserved c =
    let a = c.args in
    let l = c.loop-i in
    let taken = c.take_slot-w in (
      search rules,
      packed_step (ranked_page a.v.pages a.ranks.now a.v.number a.r) a.v.pages a.ext.now l.ext taken.new.ext l.i l.w taken.result l.invariant.1 taken.ensures,
    )

pub returns : goal.returns
returns c =
    let a = c.args in
    let l = c.loop-i in
    let p = c.requires in
    let to = ranked_page a.v.pages a.ranks.now a.v.number a.r in
    let e : l.i ≡ a.used = omega arith in
    let packed = subst (λ (k : ℕ). Packed to a.v.pages a.ext.now k l.ext l.w) e l.invariant.1 in
    let all = moved-map a.ext.now a.used a.v.pages a.ranks.now a.v.number a.r p.some p.ranked in (
      packed_length to a.v.pages a.ext.now l.ext a.used l.w packed ∙ ap length all,
      packed_end to a.v.pages a.ext.now l.ext c.fill.new.self a.used l.w p.slots p.zeros (omega arith) packed (c.fill.ensures.after (λ y h. h))
          ∙ ap (padded (length a.ext.now)) all,
    )
