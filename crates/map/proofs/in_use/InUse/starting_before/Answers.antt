-- The first slot that ends after l starts before it or not, and those behind it do not.
use Rattle.std.proofs.Common.{ap, arith}
use Rattle.rules.specs.declared.Extent.{Extent}
use Rattle.map.specs.Halved.{starts-there, starts-later}
use Rattle.map.proofs.in_use.InUse.starting_before.Goals as goal
use Rattle.map.proofs.in_use.InUse.starting_before.Goals.{else-first-self-via-then-first-self+else-slot_at-l, else-first-self-via-else-first-self}

pub returns-then-slot_at-l : goal.returns-then-slot_at-l
returns-then-slot_at-l c =
    let a = c.args in
    starts-there a.self.words.now a.self.used a.l a.self.rising a.first c.requires (omega arith) (omega (arith, ap (λ (x : Extent). x.logical) c.slot_at.ensures))

pub returns-else-first-self : goal.returns-else-first-self
returns-else-first-self c =
    let a = c.args in
    starts-later a.self.words.now a.self.used a.l a.self.rising a.first c.requires (λ h. elim c.else-first-self.branch [
      | else-first-self-via-then-first-self+else-slot_at-l w ↦ omega (arith, ap (λ (x : Extent). x.logical) w.slot_at.ensures)
      | else-first-self-via-else-first-self w ↦ absurd (omega arith)
    ])
