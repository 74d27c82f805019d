-- `entry` meets its contract (modulator, Tables). Assumes nothing.
use mathlib.Core.Path.{◌∙◌}
use borrow.Author.Rules.{rules}
use Rattle.modulator.proofs.Tables.{byte-entry, last-entry}
use Rattle.modulator_table.proofs.steps.entry.Goals as goal

pub returns-then-x-lt256 : goal.returns-then-x-lt256
returns-then-x-lt256 c = c.byte_entry.ensures ∙ byte-entry c.args.s c.args.x (search rules)

pub returns : goal.returns
returns c = c.last_entry.ensures ∙ last-entry c.args.s c.args.x (search rules)
