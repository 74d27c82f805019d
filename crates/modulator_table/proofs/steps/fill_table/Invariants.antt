-- `fill_table` meets its contract. Assumes nothing.
use mathlib.Core.Path.{◌≡◌}
use Prim.Native.Nat.{◌%◌, ◌/◌}
use Rattle.laws.proofs.Fill.{Upto}
use Rattle.modulator.specs.steps.Table.{stop_table, nibble_table, entry_at}
use Rattle.modulator_table.proofs.steps.fill_table.Given as goal

abbrev pub invariant-loop-k : goal.invariant-loop-k
invariant-loop-k l = ((l.nibbles ≡ nibble_table) × (l.stops ≡ stop_table)) × Upto 0 (λ k. entry_at (k % 20) (k / 20)) 5440 l.k l.table
