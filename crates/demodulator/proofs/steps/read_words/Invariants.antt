-- `read_words` meets its contract: a word a turn, and the answer (Reading). Assumes nothing.
use Rattle.bits.specs.Bits.{bits_of}
use Rattle.demodulator.proofs.Reading.{Reading}
use Rattle.demodulator.proofs.steps.read_words.Given as goal

abbrev pub invariant-loop-i : goal.invariant-loop-i
invariant-loop-i l = Reading (bits_of l.bytes) l.at l.before l.words l.x l.i
