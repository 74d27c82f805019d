-- `fill_table` meets its contract: behind the entries for two groups those for three are made one by one (automaton, Entries). Assumes nothing.
use native.Mathlib.Omega.{arith}
use Rattle.laws.proofs.Fill.{upto-more, upto_all}
use Rattle.automaton.specs.steps.Table.{table}
use Rattle.automaton.proofs.Entries.{twos-all, twos-upto}
use Rattle.demodulator_table.proofs.steps.fill_table.Goals as goal

pub loop-k-init : goal.loop-k-init
loop-k-init c = search (twos-upto, arith)

pub three_at-requires : goal.three_at-requires
three_at-requires c = search (twos-all, arith)

pub loop-k-preserved : goal.loop-k-preserved
loop-k-preserved c = search (upto-more, arith)

pub returns : goal.returns
unfolding table
returns c = search (upto_all)
