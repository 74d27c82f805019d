-- `first_row` meets its contract: the byte goes into a register of zeros. Assumes nothing.
use Rattle.remainder_rows.proofs.Rows.{row_first}
use mathlib.Core.Path.{refl, ap, ◌∙◌}
use native.Mathlib.Omega.{arith}
use lib.ListN.{length}
use Rattle.laws.specs.Tabulate.{tabulate}
use Rattle.register.proofs.Eight.{length-divisor}
use borrow.Author.Rules.{rules}
use Rattle.remainder_rows.proofs.steps.first_row.Goals as goal

pub push-requires : goal.push-requires
push-requires c = record { are_tables = c.requires.0; generator_len = (ap length c.requires.1 ∙ length-divisor, omega arith) }

pub returns : goal.returns
unfolding tabulate
returns c = row_first c.requires.1 refl (search rules) c.push.ensures
