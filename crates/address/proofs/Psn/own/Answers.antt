-- `Psn::own` meets its contract, from what `judge` and `if_done` ensure.
use Rattle.address.proofs.Converting.{psn-made}
use Rattle.address.proofs.Psn.own.Goals as goal

pub returns : goal.returns
returns c = search (psn-made)
