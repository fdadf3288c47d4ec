-- The scan of the unused slots decides.
use Rattle.std.proofs.Common.{arith}
use Rattle.state.specs.Sound.{headed_says}
use Rattle.state.proofs.head_ok.Goals as goal

pub returns-then-fill_of-eq0 : goal.returns-then-fill_of-eq0
returns-then-fill_of-eq0 c =
    let a = c.args in
    headed_says a.h a.ext.now a.blk.now c.all_are.result c.requires.0 (grind arith) (grind arith) (grind arith) c.all_are.ensures
