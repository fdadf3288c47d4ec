-- What the layer answers is said by the struct.
use Rattle.answers.specs.Said.{as_said}
use Rattle.utasiro.proofs.utasiro_fresh.Goals as goal

pub returns : goal.returns
returns c =
    let d = rw c.sizes_only.ensures at c.of_done.ensures in
    (as_said _ _ _ _ _ _ _ d.0 c.fresh.ensures, d.1)
