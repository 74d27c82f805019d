-- `fill_first` meets its contract: a row a turn. Assumes nothing.
use Prim.Native.Nat.{◌*◌}
use Rattle.remainder_rows.specs.steps.Rows.{FilledTo}
use Rattle.remainders.proofs.steps.fill_first.Given as goal

abbrev pub invariant-loop-b : goal.invariant-loop-b
invariant-loop-b l = FilledTo (32 * l.b) l.table
