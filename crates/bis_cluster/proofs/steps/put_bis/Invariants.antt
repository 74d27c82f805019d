-- `put_bis` meets its contract: each turn writes a place that no turn before wrote (Loops).
use Prim.Native.Nat.{◌+◌, ◌*◌}
use Rattle.bis_cluster.proofs.Loops.{BytesPut}
use Rattle.bis_cluster.proofs.steps.put_bis.Given as goal

abbrev pub invariant-loop-row : goal.invariant-loop-row
invariant-loop-row l = BytesPut l.initial.work l.block (3 * l.row) l.work

abbrev pub invariant-loop-column : goal.invariant-loop-column
invariant-loop-column l = BytesPut l.fn.work l.block (3 * l.row + l.column) l.work
