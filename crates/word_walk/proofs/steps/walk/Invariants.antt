-- `walk` meets its contract: the walk pair by pair (Walking). Assumes nothing.
use Rattle.modulation.specs.Bits.{pairs}
use Rattle.modulation.specs.steps.Words.{bits_in}
use Rattle.word_walk.proofs.Walking.{Walking}
use Rattle.word_walk.proofs.steps.walk.Given as goal

abbrev pub invariant-loop-n : goal.invariant-loop-n
invariant-loop-n l = Walking (pairs (bits_in l.words)) l.p l.waits l.n
