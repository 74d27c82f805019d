-- `within` meets its contract: the two ways of the test (Judging).
use Rattle.address.proofs.Judging.{before-zone, after_first}
use Rattle.address.proofs.within.Goals as goal

pub returns-then-psn-first : goal.returns-then-psn-first
returns-then-psn-first c = search (before-zone)

pub returns : goal.returns
returns c = search (after_first)
