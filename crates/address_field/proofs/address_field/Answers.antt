-- `address_field` meets its contract, from what its two steps ensure.
use mathlib.Core.Path.{ap, ◌∙◌}
use Rattle.bis.specs.AddressField.{partly_inverted, address_field}
use Rattle.address_field.proofs.address_field.Goals as goal

pub returns : goal.returns
unfolding address_field
returns c = c.partly_inverted.ensures ∙ ap partly_inverted c.primary_field.ensures
