-- `row_len` meets its contract (conversion, CodedRows). Assumes nothing.
use Rattle.conversion.proofs.CodedRows.{code-sized}
use Rattle.conversion_rows.proofs.steps.row_len.Goals as goal

pub returns : goal.returns
returns c = code-sized c.row_at.ensures
