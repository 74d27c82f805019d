-- `information` meets its contract: the four bytes of the AUN, the first with its bits reordered (bis, AddressFields).
use Rattle.bis.proofs.AddressFields.{information-is}
use Rattle.address_field.proofs.information.Goals as goal

pub returns : goal.returns
returns c = search (information-is)
