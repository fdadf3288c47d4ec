use Rattle.std.specs.Bool.{then_some}
use Rattle.std.specs.Option.{option_or}
use Rattle.std.specs.Prelude.{unwrap_or}
use Rattle.std.proofs.Common.{ℕ, Some, ltb, min, ◌≡◌, refl, ◌<◌, ◌≤◌, sym, ◌∙◌, arith, eqb-true, lt-ltb, le-ltb}
use Rattle.std.proofs.lemmas.Bool.{eqb-false}
use Rattle.std.proofs.Math.Logic.{by_cases}
use Rattle.std.proofs.Math.Decide.{dec_lt}
use Rattle.rules.specs.Blocks.{fill_word}
use Rattle.laws.specs.Spread.{taken_le}
use Rattle.starting.specs.Starts.{tried_found, tried_some, tried_none, tried_end}
use Rattle.starting.proofs.start_block.Goals as goal
use Rattle.starting.proofs.start_block.Goals.{then-m-gt0+else-takes_all, else-m-gt0}

-- the lower of two is the first that takes some, or the new one where none did
lower : (any b blocks : ℕ) → any ≤ blocks → b < blocks → (any < blocks → any < b)
    → then_some (ltb (min any b) blocks) (min any b) ≡ option_or (then_some (ltb any blocks) any) (Some b)
lower any b blocks t h f = by_cases (dec_lt any blocks)
    (λ s. let is : min any b ≡ any = omega (arith, f s) in rw is (rw (lt-ltb any blocks s) refl))
    (λ s. let is : min any b ≡ b = omega arith in rw is (rw (lt-ltb b blocks h) (rw (le-ltb any blocks (omega arith)) refl)))

number_is : (any blocks : ℕ) → any ≤ blocks → any ≡ unwrap_or (then_some (ltb any blocks) any) blocks
number_is any blocks t = by_cases (dec_lt any blocks)
    (λ s. rw (lt-ltb any blocks s) refl)
    (λ s. rw (le-ltb any blocks (omega arith)) (omega arith))

pub takes_all-requires : goal.takes_all-requires
takes_all-requires c =
    let a = c.args in
    let b = c.loop-b.b in
    (omega arith, omega (arith, c.room_in-m.ensures, taken_le a.h.pages a.h.reserve b (fill_word a.blk.now b) a.want))

pub returns-then-takes_all : goal.returns-then-takes_all
returns-then-takes_all c =
    let a = c.args in
    let i = c.loop-b in
    let r = c.room_in-m in
    let all = eqb-true r.result a.want (sym c.takes_all.ensures ∙ c.if-takes_all.true) in
    tried_found a.h.pages a.h.reserve a.h.blocks a.blk.now a.want i.b (then_some (ltb i.any a.h.blocks) i.any) i.invariant.0 (omega arith) r.result r.ensures (omega arith) all

pub loop-b-preserved : goal.loop-b-preserved
loop-b-preserved c =
    let a = c.args in
    let i = c.loop-b in
    let r = c.room_in-m in
    let any = then_some (ltb i.any a.h.blocks) i.any in
    let few : r.result ≤ a.want = omega (arith, r.ensures, taken_le a.h.pages a.h.reserve i.b (fill_word a.blk.now i.b) a.want) in
    elim c.if-m-gt0.branch [
      | then-m-gt0+else-takes_all w ↦
          let short : r.result < a.want = omega (arith, eqb-false r.result a.want (sym w.takes_all.ensures ∙ w.if-takes_all.false), few) in
          let first = lower i.any i.b a.h.blocks i.invariant.1 (omega arith) (λ s. (rw (lt-ltb i.any a.h.blocks s) at i.invariant.0).some.0) in
          rw w.any-is (rw w.min-any.ensures (
            rw first (tried_some a.h.pages a.h.reserve a.h.blocks a.blk.now a.want i.b any i.invariant.0 (omega arith) r.result r.ensures short (omega arith)),
            omega arith,
          ))
      | else-m-gt0 w ↦ rw w.any-is (
        tried_none a.h.pages a.h.reserve a.h.blocks a.blk.now a.want i.b any i.invariant.0 (omega arith) r.result r.ensures (omega arith),
        i.invariant.1,
      )
    ]

pub returns : goal.returns
returns c =
    let a = c.args in
    let i = c.loop-b in
    number_is i.any a.h.blocks i.invariant.1
    ∙ tried_end a.h.pages a.h.reserve a.h.blocks a.blk.now a.want i.b (then_some (ltb i.any a.h.blocks) i.any) i.invariant.0 (omega arith)
