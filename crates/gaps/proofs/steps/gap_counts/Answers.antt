-- `gap_counts` meets its contract: bit by bit (Counting). Assumes nothing.
use native.Mathlib.Omega.{arith}
use Rattle.gaps.proofs.Counting.{counting-none, counting-few, counting_more, counting-all}
use Rattle.gaps.proofs.steps.gap_counts.Goals as goal

pub loop-i-init : goal.loop-i-init
loop-i-init c = counting-none

pub count_bit-zeros-requires : goal.count_bit-zeros-requires
count_bit-zeros-requires c = counting-few c.loop-i.invariant (omega arith) (omega arith)

pub loop-i-preserved : goal.loop-i-preserved
loop-i-preserved c = search (counting_more)

pub returns : goal.returns
returns c = search (counting-all)
