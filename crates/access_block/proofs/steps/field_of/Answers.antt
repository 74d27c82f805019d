-- `field_of` meets its contract, from what its two steps ensure (Writing).
use Rattle.access_block.proofs.Writing.{field-made}
use Rattle.access_block.proofs.steps.field_of.Goals as goal

pub returns : goal.returns
returns c = search (field-made)
