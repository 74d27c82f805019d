-- `copy_bits` meets its contract (Copy). Assumes nothing.
use Rattle.frame_writer.proofs.Copy.{Copied}
use Rattle.frame_writer.proofs.steps.copy_bits.Given as goal

abbrev pub invariant-loop-k : goal.invariant-loop-k
invariant-loop-k l = Copied l.bytes l.initial.image l.at l.image l.k
