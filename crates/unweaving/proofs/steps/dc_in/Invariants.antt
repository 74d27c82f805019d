-- `dc_in` meets its contract: a number made bit by bit (frame_bits, Unweaving). Assumes nothing.
use Rattle.modulation.specs.steps.Words.{bits_in}
use Rattle.frame_bits.proofs.Unweaving.{dc_bit, NumberTo}
use Rattle.unweaving.proofs.steps.dc_in.Given as goal

abbrev pub invariant-loop-word : goal.invariant-loop-word
invariant-loop-word l = NumberTo (dc_bit (bits_in l.words)) 28 l.word-index l.dc
