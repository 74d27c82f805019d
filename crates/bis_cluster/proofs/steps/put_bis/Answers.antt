-- `put_bis` meets its contract: each turn writes a place that no turn before wrote (Loops).
use native.Mathlib.Omega.{arith}
use Rattle.laws.proofs.Scatter.{scattered-none, scattered-end}
use Rattle.bis_cluster.proofs.Loops.{bis-turn}
use Rattle.bis_cluster.proofs.steps.put_bis.Goals as goal

pub loop-row-init : goal.loop-row-init
loop-row-init c = scattered-none

pub loop-column-init : goal.loop-column-init
loop-column-init c = scattered-end (omega arith) c.loop-row.invariant

pub loop-column-preserved : goal.loop-column-preserved
loop-column-preserved c = let args = c.args in
    bis-turn args.work.now args.block.now c.loop-column.work c.loop-row.row c.loop-column.column c.bis_byte.result (omega arith) (omega arith) (omega arith) c.bis_byte.ensures
    c.loop-column.invariant

pub loop-row-preserved : goal.loop-row-preserved
loop-row-preserved c = scattered-end (omega arith) c.loop-column.invariant

pub returns : goal.returns
returns c = record { put = scattered-end (omega arith) c.loop-row.invariant }
