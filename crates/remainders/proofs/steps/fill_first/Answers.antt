-- `fill_first` meets its contract: a row a turn. Assumes nothing.
use native.Mathlib.Omega.{arith}
use Rattle.remainder_rows.proofs.Rows.{filled-less, filled_none, row_is}
use borrow.Author.Rules.{rules}
use Rattle.remainders.proofs.steps.fill_first.Goals as goal

pub loop-b-init : goal.loop-b-init
loop-b-init c = filled_none (search rules)

pub put_row-requires : goal.put_row-requires
put_row-requires c = let loop = c.loop-b in
    (loop.invariant, (search rules, row_is (search rules) c.first_row-row.ensures.1))

pub loop-b-preserved : goal.loop-b-preserved
loop-b-preserved c = filled-less (omega arith) c.put_row.ensures

pub returns : goal.returns
returns c = filled-less (omega arith) c.loop-b.invariant
