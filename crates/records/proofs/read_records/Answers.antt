use Rattle.std.proofs.Common.{length, arith}
use Rattle.rules.specs.Extents.{flat}
use Rattle.records.specs.Laid.{First}
use Rattle.records.specs.LaidLaws.{laid-first}
use Rattle.records.proofs.read_records.Goals as goal

pub returns : goal.returns
returns c =
    let recs = c.args.recs.now in
    let first : First c.flatten.new.words (length recs) (flat recs) = rw c.flatten.ensures (laid-first recs _ (omega arith)) in
    c.read_words.ensures (flat recs) first
