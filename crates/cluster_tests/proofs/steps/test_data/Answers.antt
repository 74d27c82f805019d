-- `test_data` meets its contract, test by test (Testing).
use Rattle.cluster_tests.proofs.Testing.{refused-before, columns-wrong, sectors-decide}
use Rattle.cluster_tests.proofs.steps.test_data.Goals as goal

pub returns-then-is_done-2 : goal.returns-then-is_done-2
returns-then-is_done-2 c = search (sectors-decide)

pub returns-then-is_done : goal.returns-then-is_done
returns-then-is_done c = search (columns-wrong)

pub returns : goal.returns
returns c = search (refused-before)
