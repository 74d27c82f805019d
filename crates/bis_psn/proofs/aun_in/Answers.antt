-- `aun_in` meets its contract, from what its steps ensure (Judging).
use Rattle.bis_psn.proofs.Judging.{aun-read}
use Rattle.bis_psn.proofs.aun_in.Goals as goal

pub returns : goal.returns
returns c = aun-read _ _ c.primary_in.ensures c.restored.ensures c.word.ensures
