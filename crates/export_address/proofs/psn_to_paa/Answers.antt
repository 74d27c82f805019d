-- `psn_to_paa` meets its contract: the parts of the answer below it (Exported).
use Rattle.export_address.proofs.Exported.{same-paa}
use Rattle.export_address.proofs.psn_to_paa.Goals as goal

pub returns : goal.returns
returns c = search (same-paa)
