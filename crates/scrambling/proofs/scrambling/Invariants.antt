-- `scrambling` meets its contract: the bytes passed are those of the stream, and s is the register of the next (Stream).
use Rattle.scrambling.proofs.Stream.{Streamed}
use Rattle.scrambling.proofs.scrambling.Given as goal

abbrev pub invariant-loop-byte : goal.invariant-loop-byte
invariant-loop-byte l = Streamed l.initial.s l.byte-index l.s l.byte-items
