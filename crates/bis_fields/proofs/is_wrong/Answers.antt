-- `is_wrong` meets its contract: the roots of the field as it is read.
use Rattle.bis.specs.Reading.{wrong_field}
use Rattle.bis_fields.proofs.is_wrong.Goals as goal

pub returns : goal.returns
unfolding wrong_field
returns c = cc
