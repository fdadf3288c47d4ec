-- What a sound state is of: the words lent, and that they are of the right shape and sound, as the laws say it.
use Rattle.rules.specs.Lent.{Lent, lent}
use Rattle.laws.specs.Sound.{Shaped, SoundState}
use Rattle.laws.specs.Shapes.{shaped-true}
use Rattle.laws.specs.Sounds.{sound-state}
use Rattle.state.specs.declared.sound.Sound.{Sound}

abbrev pub lent_of : Sound → Lent
lent_of s = lent s.head s.ext.now s.blk.now s.spare.now

pub is-shaped : (s : Sound) → Shaped (lent_of s)
is-shaped s = shaped-true (lent_of s) s.shaped

pub is-state : (s : Sound) → SoundState (lent_of s)
is-state s = sound-state (lent_of s) (is-shaped s) s.sound
