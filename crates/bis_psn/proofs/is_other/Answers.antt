-- `is_other` meets its contract: the AUN that is read, and that of the PSN (Judging).
use Rattle.bis_psn.proofs.Judging.{unit-judged}
use Rattle.bis_psn.proofs.is_other.Goals as goal

pub returns : goal.returns
returns c = search (unit-judged)
