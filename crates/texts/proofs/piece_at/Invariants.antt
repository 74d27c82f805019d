-- `piece_at` meets its contract: bar by bar (Pieces).
use Rattle.texts.specs.Pieces.{PieceBehind}
use Rattle.texts.proofs.piece_at.Given as goal

abbrev pub invariant-loop-i : goal.invariant-loop-i
invariant-loop-i l = PieceBehind l.pieces l.k l.i l.bars
