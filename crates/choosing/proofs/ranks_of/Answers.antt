use Rattle.std.proofs.Common.{arith}
use Rattle.std.proofs.lemmas.List.{get_or-replicate}
use Rattle.choosing.specs.Ranks.{marks_ranks}
use Rattle.choosing.proofs.ranks_of.Goals as goal

pub mark_slots-requires-clause-by_index_2 : goal.mark_slots-requires-clause-by_index_2
mark_slots-requires-clause-by_index_2 c = λ o h. get_or-replicate 257 o 0 0 (omega arith)

pub returns : goal.returns
returns c =
    let a = c.args in
    let marked = c.mark_slots in
    let added = c.add_up in
    marks_ranks a.ext.now a.used a.v.pages a.v.number marked.new.marks added.new.marks (omega arith) marked.ensures added.ensures
