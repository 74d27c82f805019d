-- `if_done` meets its contract: the value, or 0 (Judging).
use Rattle.address.proofs.Judging.{value-given, value-zero}
use Rattle.address.proofs.if_done.Goals as goal

pub returns-then-is_done : goal.returns-then-is_done
returns-then-is_done c = search (value-given)

pub returns : goal.returns
returns c = search (value-zero)
