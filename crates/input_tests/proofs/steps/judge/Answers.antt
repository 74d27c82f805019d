-- `judge` meets its contract: the PSN is refused, or the dc words decide (Judging).
use Rattle.input_tests.proofs.Judging.{psn-refused, dc-word, all_right}
use Rattle.input_tests.proofs.steps.judge.Goals as goal

pub returns-then-n-lt-FRAMES : goal.returns-then-n-lt-FRAMES
returns-then-n-lt-FRAMES c = search (dc-word)

pub returns-else-n-lt-FRAMES : goal.returns-else-n-lt-FRAMES
returns-else-n-lt-FRAMES c = search (all_right)

pub returns-else-is_done : goal.returns-else-is_done
returns-else-is_done c = search (psn-refused)
