-- `put_piece` meets its contract: what is left of the piece is put behind what is done (Pieces).
use Rattle.texts.proofs.Pieces.{put-more, put-bar, put_all}
use Rattle.texts.proofs.put_piece.Goals as goal

pub loop-byte-preserved : goal.loop-byte-preserved
loop-byte-preserved c = put-more c.loop-byte.invariant c.loop-byte-test.true c.if-byte-eq124.false c.put_shown-done.ensures

pub returns-after-loop-byte : goal.returns-after-loop-byte
returns-after-loop-byte c = put_all c.loop-byte.invariant c.loop-byte-test.false

pub returns-then-byte-eq124 : goal.returns-then-byte-eq124
returns-then-byte-eq124 c = put-bar c.loop-byte.invariant c.loop-byte-test.true c.if-byte-eq124.true
