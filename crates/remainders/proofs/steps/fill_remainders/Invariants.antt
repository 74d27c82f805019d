-- `fill_remainders` meets its contract: first the rows with no zeros, then a zero more a turn. Assumes nothing.
use Prim.Native.Nat.{◌+◌, ◌*◌}
use Rattle.remainder_rows.specs.steps.Rows.{FilledTo}
use Rattle.remainders.proofs.steps.fill_remainders.Given as goal

abbrev pub invariant-loop-k : goal.invariant-loop-k
invariant-loop-k l = FilledTo (8192 * l.k + 8192) l.table
