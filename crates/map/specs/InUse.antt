-- The extents in use, as a list.
use Rattle.std.specs.Prelude.{List}
use Rattle.rules.specs.Extents.{slots_from}
use Rattle.rules.specs.declared.Extent.{Extent}
use Rattle.map.specs.declared.in_use.InUse.{InUse}

abbrev pub extents_of : InUse → List Extent
extents_of m = slots_from m.words.now 0 m.used
