-- `row_at` meets its contract: the code's table is the definition's, computed row by row. Assumes nothing.
use mathlib.Core.Path.{ap}
use Prim.Native.Nat.{ℕ}
use lib.ListN.{length, get_or-map}
use Rattle.bits.specs.Bits.{number}
use Rattle.modulation.specs.Modulation.{Row, rows, no_row}
use Rattle.modulation.specs.Bits.{data_bits, bits}
use Rattle.conversion.specs.declared.Row.{Row as CodeRow}
use Rattle.conversion.specs.declared.When.{When as CodeWhen}
use Rattle.conversion.specs.steps.Rows.{coded_when}
use Rattle.conversion_rows.proofs.steps.row_at.Goals as goal

parts : Row → ℕ × ℕ × ℕ × CodeWhen
parts r = (length r.pairs, number (data_bits r.pairs), number (bits r.groups), coded_when r.when)

row_of : ℕ × ℕ × ℕ × CodeWhen → CodeRow
row_of t = record { pairs = t.0; data_bits = t.1; modulation_bits = t.2; when = t.3 }

pub returns : goal.returns
unfolding number parts row_of
returns c = record { below = c.requires; is = ap row_of (get_or-map parts rows c.args.k no_row) }
