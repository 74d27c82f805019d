-- `primary_field` meets its contract: information and parity, byte by byte (bis, AddressFields).
use Rattle.bis.proofs.AddressFields.{primary-is}
use Rattle.address_field.proofs.primary_field.Goals as goal

pub returns : goal.returns
returns c = search (primary-is)
