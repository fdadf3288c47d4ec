use Rattle.reading.specs.Pieces.{pieces_left}
use Rattle.reading.specs.Told.{Told}
use Rattle.reading.proofs.list_found.Given as goal

abbrev pub invariant-loop-piece : goal.invariant-loop-piece
invariant-loop-piece l = Told (pieces_left l.initial.piece-iterator) l.initial.out l.yielded (pieces_left l.piece-iterator) l.k l.out
