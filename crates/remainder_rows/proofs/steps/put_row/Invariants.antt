-- `put_row` meets its contract: the loop puts the row's entries behind those that are filled. Assumes nothing.
use Prim.Native.Nat.{◌+◌}
use Rattle.remainder_rows.specs.steps.Rows.{FilledTo}
use Rattle.remainder_rows.proofs.steps.put_row.Given as goal

abbrev pub invariant-loop-j : goal.invariant-loop-j
invariant-loop-j l = FilledTo (l.at + l.j) l.table
