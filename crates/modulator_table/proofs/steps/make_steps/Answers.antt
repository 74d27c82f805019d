-- `make_steps` meets its contract: entry by entry (modulator, Made). Assumes nothing.
use Prim.Native.Nat.{◌%◌, ◌/◌}
use borrow.Author.Rules.{rules}
use Rattle.modulator.specs.steps.Table.{step_table, step_entry}
use Rattle.modulator.proofs.Made.{tabulated}
use Rattle.modulator_table.proofs.steps.make_steps.Goals as goal

pub returns : goal.returns
unfolding step_table
returns c = tabulated (λ k. step_entry (k / 4) (k % 4)) c.from_fn.ensures.items (λ k p q v h call. search rules)
