-- `ends_in_one` meets its contract (conversion, CodedRows). Assumes nothing.
use Rattle.conversion.proofs.CodedRows.{code-last}
use Rattle.conversion_rows.proofs.steps.ends_in_one.Goals as goal

pub returns : goal.returns
returns c = code-last c.row_at.ensures
