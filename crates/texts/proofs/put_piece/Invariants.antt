-- `put_piece` meets its contract: what is left of the piece is put behind what is done (Pieces).
use Rattle.texts.proofs.Pieces.{Putting}
use Rattle.texts.proofs.put_piece.Given as goal

abbrev pub invariant-loop-byte : goal.invariant-loop-byte
invariant-loop-byte l = Putting l.initial.done l.pieces l.k l.n l.done l.byte-items l.byte-index
