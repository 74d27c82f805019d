-- `test_block` meets its contract, test by test (Testing).
use Rattle.cluster_tests.proofs.Testing.{block-tested}
use Rattle.cluster_tests.proofs.steps.test_block.Goals as goal

pub returns : goal.returns
returns c = search (block-tested)
