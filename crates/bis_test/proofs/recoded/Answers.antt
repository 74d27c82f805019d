-- `recoded` meets what its part of the column asks: the column has 62 bytes.
use mathlib.Core.Path.{sym}
use borrow.Author.Rules.{rules}
use lib.Seq.{length-take-le}
use Rattle.bis_test.proofs.recoded.Goals as goal

pub slice_bounds-write_parity-end : goal.slice_bounds-write_parity-end
slice_bounds-write_parity-end c = sym (length-take-le 30 c.args.column (search rules))
