-- Near the last page the labels one after the other, before it in windows, and few of them in one.
use Rattle.std.proofs.Common.{arith}
use Rattle.windows.specs.Window.{home-last, home-many, home-few}
use Rattle.windows.proofs.home_ok.Goals as goal

pub returns-then-to-spare : goal.returns-then-to-spare
returns-then-to-spare c = home-last c.requires c.all_rise.result (omega arith) c.all_rise.ensures

pub returns-then-many-gt-W : goal.returns-then-many-gt-W
returns-then-many-gt-W c = home-many c.requires c.windows_ok.result (omega arith) c.windows_ok.ensures

pub returns : goal.returns
returns c = home-few c.requires c.window_ok.result (omega arith) (omega arith) c.window_ok.ensures
