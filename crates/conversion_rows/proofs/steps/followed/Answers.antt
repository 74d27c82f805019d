-- `followed` meets its contract (conversion, CodedRows). Assumes nothing.
use native.Mathlib.Omega.{arith}
use Rattle.conversion.proofs.CodedRows.{code-sized, code-bits, code_fits}
use Rattle.conversion_rows.proofs.steps.followed.Goals as goal

pub overflow_mul-result : goal.overflow_mul-result
overflow_mul-result c = omega (arith, code-sized c.row_at-r.ensures)

pub overflow_cast-result : goal.overflow_cast-result
overflow_cast-result c = omega (arith, code-sized c.row_at-r.ensures)

pub overflow_shl-result : goal.overflow_shl-result
overflow_shl-result c = omega (arith, code-sized c.row_at-r.ensures)

pub overflow_add-result : goal.overflow_add-result
overflow_add-result c = record { fits = code_fits c.row_at-r.ensures c.args.value c.requires.1 }

pub returns : goal.returns
returns c = code-bits c.row_at-r.ensures c.args.value c.requires.1
