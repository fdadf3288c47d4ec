use Rattle.std.proofs.Common.{sym, arith}
use Rattle.records.specs.ReadLaws.{too_many_lem}
use Rattle.records.proofs.read_words.Goals as goal

pub returns-then-k-gt-MOST_SLOTS : goal.returns-then-k-gt-MOST_SLOTS
returns-then-k-gt-MOST_SLOTS c ext f = too_many_lem _ ext _ _ _ _ _ _ _ f c.if-k-gt-MOST_SLOTS.true

pub returns : goal.returns
returns c ext f = rw (sym (f.first (omega arith))) c.read.ensures
