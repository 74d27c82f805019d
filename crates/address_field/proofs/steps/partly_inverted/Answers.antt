-- `partly_inverted` meets its contract, byte by byte (bis, AddressFields).
use Rattle.bis.proofs.AddressFields.{inverted-is}
use Rattle.address_field.proofs.steps.partly_inverted.Goals as goal

pub returns : goal.returns
returns c = search (inverted-is)
