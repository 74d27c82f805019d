-- `Paa::psn` meets its contract: a PAA off a cluster, one above every zone, and any other (Judging).
use Rattle.address.specs.Conversions.{paa_to_psn}
use Rattle.address.proofs.Judging.{paa-off-cluster, paa-too-high}
use Rattle.address.proofs.Paa.psn.Goals as goal

pub returns-then-paa-ne0 : goal.returns-then-paa-ne0
returns-then-paa-ne0 c = search (paa-off-cluster)

pub returns-then-paa-gt536870911 : goal.returns-then-paa-gt536870911
returns-then-paa-gt536870911 c = search (paa-too-high)

pub returns : goal.returns
unfolding paa_to_psn
returns c = c.own.ensures
