use Rattle.state.specs.Seen.{lent_of}
use Rattle.views.specs.Report.{report-filled, report-counts}
use Rattle.views.proofs.count_pages.Goals as goal

pub totals_of-requires : goal.totals_of-requires
totals_of-requires c = let s = c.args.s in report-filled (lent_of s) (s.shaped, s.sound)

pub returns : goal.returns
returns c = let s = c.args.s in report-counts (lent_of s) (s.shaped, s.sound) _ c.totals_of.ensures
