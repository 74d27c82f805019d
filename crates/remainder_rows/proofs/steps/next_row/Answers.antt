-- `next_row` meets its contract: one zero more goes into the row of the table before. Assumes nothing.
use native.Mathlib.Omega.{arith}
use Rattle.remainder_rows.proofs.Rows.{filled-less, filled-first, row_next}
use Rattle.remainder_rows.proofs.steps.next_row.Goals as goal

pub row_at-row-requires : goal.row_at-row-requires
row_at-row-requires c = (omega arith, filled-less (omega arith) c.requires.0)

pub pushed_byte-requires : goal.pushed_byte-requires
pushed_byte-requires c = (filled-first (omega arith) c.requires.0, c.row_at-row.ensures.0)

pub returns : goal.returns
returns c = let row = c.row_at-row.ensures in
    let next = c.pushed_byte.ensures in
    (next.0, row_next c.args.k c.args.b c.requires.1.1 row.0 row.1 next.0 next.1)
