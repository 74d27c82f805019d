-- `Psn::judge` meets its contract, case by case of the judgement (Judging).
use Rattle.address.proofs.Judging.{no-multiple, no-zone, accepted}
use Rattle.address.proofs.Psn.judge.Goals as goal

pub returns-then-psn-ne0 : goal.returns-then-psn-ne0
returns-then-psn-ne0 c = search (no-multiple)

pub returns-then-in_data_zone : goal.returns-then-in_data_zone
returns-then-in_data_zone c = search (accepted)

pub returns : goal.returns
returns c = search (no-zone)
