-- `put_parity` meets its contract: the parity, copied.
use mathlib.Core.Path.{◌∙◌}
use Rattle.column_parity.proofs.put_parity.Goals as goal

pub returns : goal.returns
returns c = c.copy_from_slice.ensures.after ∙ c.parity_of-made.ensures
