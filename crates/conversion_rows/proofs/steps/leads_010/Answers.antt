-- `leads_010` meets its contract (conversion, CodedRows). Assumes nothing.
use native.Mathlib.Omega.{arith}
use Rattle.conversion.proofs.CodedRows.{code-sized, code-leads}
use Rattle.conversion_rows.proofs.steps.leads_010.Goals as goal

pub overflow_sub-result : goal.overflow_sub-result
overflow_sub-result c = omega (arith, code-sized c.row_at-r.ensures)

pub overflow_mul-result : goal.overflow_mul-result
overflow_mul-result c = omega (arith, code-sized c.row_at-r.ensures)

pub overflow_cast-result : goal.overflow_cast-result
overflow_cast-result c = omega (arith, code-sized c.row_at-r.ensures)

pub overflow_shr-result : goal.overflow_shr-result
overflow_shr-result c = omega (arith, code-sized c.row_at-r.ensures)

pub returns : goal.returns
returns c = code-leads c.row_at-r.ensures
