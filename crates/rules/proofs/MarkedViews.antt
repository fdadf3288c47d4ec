-- Views and a refused fresh on the device of P12: the statement holds by computing.
use Rattle.std.specs.Prelude.{refl}
use Rattle.rules.specs.Opened.{opened}
use Rattle.rules.specs.MarkedViews.{MarkedViews}

pub marked_views : MarkedViews
unfolding opened
marked_views = record { reports = refl; reads = refl; shape = refl; damages = refl; range = refl; short = refl; unseen = refl; unmade = refl }
