-- `fill_twos` meets its contract: the entries are made one by one (automaton, Entries). Assumes nothing.
use Rattle.laws.proofs.Fill.{Upto}
use Rattle.automaton.specs.steps.Table.{table_entry}
use Rattle.demodulator_table.proofs.steps.fill_twos.Given as goal

abbrev pub invariant-loop-k : goal.invariant-loop-k
invariant-loop-k l = Upto 0 table_entry 10368 l.k l.made
