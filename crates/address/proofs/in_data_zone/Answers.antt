-- `in_data_zone` meets its contract, zone by zone (Judging).
use Rattle.address.proofs.Judging.{in-zone0, in-zone1, in-zone2}
use Rattle.address.proofs.in_data_zone.Goals as goal

pub returns-then-within : goal.returns-then-within
returns-then-within c = search (in-zone0)

pub returns-then-within-2 : goal.returns-then-within-2
returns-then-within-2 c = search (in-zone1)

pub returns : goal.returns
returns c = search (in-zone2)
