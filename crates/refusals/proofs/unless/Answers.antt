use Rattle.std.proofs.Common.{sym, ap, not}
use Rattle.laws.specs.Refused.{refuse_here, refuse_later}
use Rattle.refusals.proofs.unless.Goals as goal

pub returns-then-passed : goal.returns-then-passed
returns-then-passed c = sym (refuse_later _ _ 0 (ap not c.if-passed.true))

pub returns-else-passed : goal.returns-else-passed
returns-else-passed c = sym (refuse_here _ _ 0 (ap not c.if-passed.false))
