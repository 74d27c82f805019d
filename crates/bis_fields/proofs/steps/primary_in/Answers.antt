-- `primary_in` meets its contract, from what its two steps ensure.
use mathlib.Core.Path.{ap, ◌∙◌}
use Rattle.bis.specs.AddressField.{partly_inverted}
use Rattle.bis.specs.Reading.{primary_in}
use Rattle.bis_fields.proofs.steps.primary_in.Goals as goal

pub returns : goal.returns
unfolding primary_in
returns c = c.partly_inverted.ensures ∙ ap partly_inverted c.field_in.ensures
