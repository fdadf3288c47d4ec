-- Every definition on the way from a request to its outcome, so that what is stated of closed values holds by computing: `unfolding opened` opens them all.
use Rattle.rules.specs.Counting.{sum, count, all, first, most, picks, tabulate, among}
use Rattle.rules.specs.Extents.{lookup, joinable, join, runs, slots_from, flat}
use Rattle.rules.specs.Blocks.{records}
use Rattle.rules.specs.Shape.{sizes, lengths, shape, shaped}
use Rattle.rules.specs.Sound.{rule1, rule2, rule3, rule4, mapped_in, rule5, rule6, sound}
use Rattle.rules.specs.Device.{mapped, named, valid, stale_in, stale, live, room, free, extents, table_of, device_of, head_of, words_of}
use Rattle.rules.specs.Placement.{put_at, puts_at, places_at, target, in_turn, targets, puts, places, pieces}
use Rattle.rules.specs.Reclaim.{victim, sources, goes, copied, moved, reclaimed_at, reclaimed}
use Rattle.rules.specs.Read.{with_hole, with_holes, found}
use Rattle.rules.specs.Request.{applied, judged, with_table, numbered, written, trimmed}
use Rattle.rules.specs.Answers.{refuse}
use Rattle.rules.specs.Calls.{outside, too_many, write_refusal, trim_refusal, read_refusal, reclaim_refusal, refusal, counts, leaves, lists, over, refused, tested}
use Rattle.rules.specs.Calls.{accepted_on, call, fresh_device, fresh}
use Rattle.rules.specs.Makes.{make}
use Rattle.rules.specs.Views.{view}

unfoldable pub opened : Unit {0}
unfolding sum count all first most picks tabulate among
    lookup joinable join runs slots_from flat records sizes lengths shape shaped
    rule1 rule2 rule3 rule4 mapped_in rule5 rule6 sound
    mapped named valid stale_in stale live room free extents table_of device_of head_of words_of
    put_at puts_at places_at target in_turn targets puts places pieces
    victim sources goes copied moved reclaimed_at reclaimed with_hole with_holes found
    applied judged with_table numbered written trimmed refuse
    outside too_many write_refusal trim_refusal read_refusal reclaim_refusal refusal counts leaves lists over refused
    tested accepted_on call view fresh_device make fresh
opened = tt
