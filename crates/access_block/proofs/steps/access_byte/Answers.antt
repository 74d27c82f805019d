-- `access_byte` meets its contract: the rows of address fields, and those of control data (Writing).
use Rattle.access_block.proofs.Writing.{in-a-field, in-control-data}
use Rattle.access_block.proofs.steps.access_byte.Goals as goal

pub returns-then-row-lt6 : goal.returns-then-row-lt6
returns-then-row-lt6 c = search (in-a-field)

pub returns : goal.returns
returns c = search (in-control-data)
