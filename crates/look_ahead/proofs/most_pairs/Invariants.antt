-- `most_pairs` meets its contract: word by word (Counting). Assumes nothing.
use Prim.Native.Nat.{◌-◌}
use Rattle.modulation.specs.Bits.{pairs}
use Rattle.modulation.specs.steps.Words.{bits_in}
use Rattle.look_ahead.proofs.Counting.{MostSoFar}
use Rattle.look_ahead.proofs.most_pairs.Given as goal

abbrev pub invariant-loop-p : goal.invariant-loop-p
invariant-loop-p l = MostSoFar (pairs (bits_in l.words)) l.most l.p

abbrev pub decreases-loop-p : goal.decreases-loop-p
decreases-loop-p l = 634 - l.p
