-- `work` has the length that it says.
use Rattle.std.proofs.Common.{ℕ}
use lib.ListN.{length-replicate}
use Rattle.test_bytes.proofs.lent.work.Goals as goal

pub returns : goal.returns
returns c = length-replicate {A = ℕ} 76880 90
