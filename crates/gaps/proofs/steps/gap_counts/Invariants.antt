-- `gap_counts` meets its contract: bit by bit (Counting). Assumes nothing.
use Rattle.gaps.proofs.Counting.{Counting}
use Rattle.gaps.proofs.steps.gap_counts.Given as goal

abbrev pub invariant-loop-i : goal.invariant-loop-i
invariant-loop-i l = Counting l.bytes l.n l.i l.counts l.zeros
