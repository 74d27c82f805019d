-- `fill_remainders` meets its contract: first the rows with no zeros, then a zero more a turn. Assumes nothing.
use native.Mathlib.Omega.{arith}
use Rattle.remainder_rows.proofs.Rows.{filled-less}
use Rattle.remainders.proofs.Table.{filled-all}
use Rattle.remainders.proofs.steps.fill_remainders.Goals as goal

pub loop-k-init : goal.loop-k-init
loop-k-init c = filled-less (omega arith) c.fill_first.ensures

pub loop-k-preserved : goal.loop-k-preserved
loop-k-preserved c = filled-less (omega arith) c.fill_next.ensures

pub returns : goal.returns
returns c = filled-all (filled-less (omega arith) c.loop-k.invariant)
