-- `put_row` meets its contract: the loop puts the row's entries behind those that are filled. Assumes nothing.
use native.Mathlib.Omega.{arith}
use Rattle.remainder_rows.proofs.Rows.{filled-less}
use Rattle.remainder_rows.proofs.steps.put_row.Goals as goal

pub loop-j-init : goal.loop-j-init
loop-j-init c = filled-less (omega arith) c.requires.0

pub returns : goal.returns
returns c = filled-less (omega arith) c.loop-j.invariant
