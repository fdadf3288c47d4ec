-- What the walk has still to give.
use Rattle.std.specs.Prelude.{◌-◌, List}
use Rattle.rules.specs.Extents.{slots_from}
use Rattle.rules.specs.declared.Extent.{Extent}
use Rattle.reading.specs.Walk.{between}
use Rattle.reading.specs.declared.Pieces.{Pieces}

abbrev pub pieces_left : Pieces → List Extent
pieces_left s = between s.pos s.e (slots_from s.m.words.now s.i (s.m.used - s.i))
