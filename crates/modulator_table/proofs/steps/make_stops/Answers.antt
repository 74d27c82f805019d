-- `make_stops` meets its contract: entry by entry (modulator, Made). Assumes nothing.
use borrow.Author.Rules.{rules}
use Rattle.modulator.specs.steps.Table.{stop_table, stop_entry}
use Rattle.modulator.proofs.Made.{tabulated}
use Rattle.modulator_table.proofs.steps.make_stops.Goals as goal

pub returns : goal.returns
unfolding stop_table
returns c = tabulated (stop_entry) c.from_fn.ensures.items (λ k p q v h call. search rules)
