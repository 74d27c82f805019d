-- `test` meets its contract: the BIS block, then the data (Testing).
use Rattle.cluster_tests.proofs.Testing.{cluster-tested}
use Rattle.cluster_tests.proofs.steps.test.Goals as goal

pub returns : goal.returns
returns c = search (cluster-tested)
