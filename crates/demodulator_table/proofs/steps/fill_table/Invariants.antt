-- `fill_table` meets its contract: behind the entries for two groups those for three are made one by one (automaton, Entries). Assumes nothing.
use mathlib.Core.Path.{◌≡◌}
use Rattle.laws.proofs.Fill.{Upto}
use Rattle.automaton.specs.Automaton.{transitions}
use Rattle.automaton.specs.steps.Table.{table_entry}
use Rattle.demodulator_table.proofs.steps.fill_table.Given as goal

abbrev pub invariant-loop-k : goal.invariant-loop-k
invariant-loop-k l = (l.ones ≡ transitions) × Upto 0 table_entry 10368 l.k l.made
