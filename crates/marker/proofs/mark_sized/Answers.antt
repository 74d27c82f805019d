-- `mark_sized` meets its contract: what was read is compared, or its refusal handed on (Judging).
use Rattle.marker.proofs.Judging.{is-compared, is-refused, sizes}
use borrow.Author.Rules.{rules}
use Rattle.marker.proofs.mark_sized.Goals as goal

pub returns-then-is_done : goal.returns-then-is_done
returns-then-is_done c = search (is-compared)

pub returns : goal.returns
returns c = search (is-refused)
