-- `paa_to_psn` meets its contract: the parts of the answer below it (Exported).
use Rattle.export_address.proofs.Exported.{same-psn}
use Rattle.export_address.proofs.paa_to_psn.Goals as goal

pub returns : goal.returns
returns c = search (same-psn)
