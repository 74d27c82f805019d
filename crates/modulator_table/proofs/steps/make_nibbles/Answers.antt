-- `make_nibbles` meets its contract: entry by entry (modulator, Made). Assumes nothing.
use Prim.Native.Nat.{◌%◌, ◌/◌}
use borrow.Author.Rules.{rules}
use Rattle.modulator.specs.steps.Table.{nibble_table, nibble_entry}
use Rattle.modulator.proofs.Made.{tabulated}
use Rattle.modulator_table.proofs.steps.make_nibbles.Goals as goal

pub returns : goal.returns
unfolding nibble_table
returns c = tabulated (λ k. nibble_entry (k % 20) (k / 20)) c.from_fn.ensures.items (λ k p q v h call. search rules)
