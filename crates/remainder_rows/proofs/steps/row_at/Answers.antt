-- `row_at` meets its contract: the loop copies the row. Assumes nothing.
use native.Mathlib.Omega.{arith}
use Rattle.register.proofs.Eight.{filling-none, padded-zeros}
use Rattle.remainder_rows.proofs.Rows.{row_copied}
use borrow.Author.Rules.{rules}
use Rattle.remainder_rows.proofs.steps.row_at.Goals as goal

pub loop-j-init : goal.loop-j-init
loop-j-init c = search (filling-none, padded-zeros, arith)

pub returns : goal.returns
returns c = let filling = c.loop-j.invariant in (filling.padded, row_copied (search rules) c.requires.1 filling)
