-- `read_two` meets its contract: a word of each frame a turn, and the answers (Reading). Assumes nothing.
use Rattle.bits.specs.Bits.{bits_of}
use Rattle.demodulator.proofs.Reading.{Reading}
use Rattle.demodulator.proofs.steps.read_two.Given as goal

abbrev pub invariant-loop-i : goal.invariant-loop-i
invariant-loop-i l = Reading (bits_of l.bytes) l.at l.before l.words l.x l.i × Reading (bits_of l.bytes) l.also l.prior l.more l.y l.i
