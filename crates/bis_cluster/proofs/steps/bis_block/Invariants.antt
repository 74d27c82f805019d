-- `bis_block` meets its contract, column by column.
use mathlib.Core.List.{[]}
use Rattle.laws.proofs.Fill.{Upto}
use Rattle.cluster.specs.Multiplex.{column_in}
use Rattle.bis_cluster.proofs.steps.bis_block.Given as goal

abbrev pub invariant-loop-c : goal.invariant-loop-c
invariant-loop-c l = Upto [] (column_in l.work) 24 l.c l.column-items
