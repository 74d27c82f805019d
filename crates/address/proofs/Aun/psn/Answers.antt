-- `Aun::psn` meets its contract: an odd number and any other (Judging).
use Rattle.address.proofs.Judging.{aun-odd, aun-even}
use Rattle.address.proofs.Aun.psn.Goals as goal

pub returns-then-aun-ne0 : goal.returns-then-aun-ne0
returns-then-aun-ne0 c = search (aun-odd)

pub returns : goal.returns
returns c = search (aun-even)
