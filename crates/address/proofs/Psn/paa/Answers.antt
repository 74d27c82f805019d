-- `Psn::paa` meets its contract, from what `judge` and `if_done` ensure.
use Rattle.address.proofs.Converting.{paa-made}
use Rattle.address.proofs.Psn.paa.Goals as goal

pub returns : goal.returns
returns c = search (paa-made)
