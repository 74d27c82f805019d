-- `fill_next` meets its contract: a row a turn. Assumes nothing.
use native.Mathlib.Omega.{arith}
use Rattle.remainder_rows.proofs.Rows.{filled-less}
use Rattle.remainders.proofs.steps.fill_next.Goals as goal

pub loop-b-init : goal.loop-b-init
loop-b-init c = filled-less (omega arith) c.requires.0

pub loop-b-preserved : goal.loop-b-preserved
loop-b-preserved c = filled-less (omega arith) c.put_row.ensures

pub returns : goal.returns
returns c = filled-less (omega arith) c.loop-b.invariant
