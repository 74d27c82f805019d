-- `psn` meets its contract: one was found, or none (Judging).
use Rattle.judging.proofs.Judging.{is_found, is_none}
use Rattle.judging.proofs.steps.psn.Goals as goal

pub returns-in-Found : goal.returns-in-Found
returns-in-Found c = search (is_found)

pub returns-in-NotFound : goal.returns-in-NotFound
returns-in-NotFound c = search (is_none)
