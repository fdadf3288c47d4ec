-- The two places, and how many slots lie before the one and from the other on.
use Rattle.std.proofs.Common.{◌+◌}
use Rattle.map.specs.Around.{ends_others}
use Rattle.map.proofs.in_use.InUse.around.Goals as goal

-- the slots from the second place on are those that end after the range
pub overflow_sub-after : goal.overflow_sub-after
overflow_sub-after c =
    let a = c.args in
    (ends_others (a.l + a.n) a.self.words.now a.self.used _ c.first_after-behind.ensures).0

pub returns : goal.returns
returns c =
    let a = c.args in
    record {
      first = c.first_after-first.ensures;
      before = c.starting_before-before.ensures;
      after = (ends_others (a.l + a.n) a.self.words.now a.self.used _ c.first_after-behind.ensures).1;
    }
