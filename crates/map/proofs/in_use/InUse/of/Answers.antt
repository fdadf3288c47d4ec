use Rattle.std.proofs.Common.{arith}
use Rattle.state.specs.Seen.{lent_of, is-shaped, is-state}
use Rattle.map.specs.Sound.{rows-sound, sound-rising}
use Rattle.map.proofs.in_use.InUse.of.Goals as goal

pub invariant_of-result : goal.invariant_of-result
invariant_of-result c =
    let s = c.args.s in
    record {
      held = omega (arith, (is-shaped s).extents, (is-state s).few);
      rising = sound-rising s.ext.now s.head.used (rows-sound (lent_of s) (is-state s));
    }
