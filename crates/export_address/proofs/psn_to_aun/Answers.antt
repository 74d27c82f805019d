-- `psn_to_aun` meets its contract: the parts of the answer below it (Exported).
use Rattle.export_address.proofs.Exported.{same-aun}
use Rattle.export_address.proofs.psn_to_aun.Goals as goal

pub returns : goal.returns
returns c = search (same-aun)
