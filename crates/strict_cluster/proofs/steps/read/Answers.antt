-- `read` meets its contract: what the tests found decides (Reading).
use borrow.Author.Rules.{rules}
use Rattle.strict_cluster.proofs.Reading.{stream-length, all-passed, one-refused}
use Rattle.strict_cluster.proofs.steps.read.Goals as goal

pub returns-then-is_done : goal.returns-then-is_done
returns-then-is_done c = search (all-passed)

pub returns : goal.returns
returns c = search (one-refused)
