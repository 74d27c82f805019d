-- `row` meets its contract, case by case of what is shown (Rows).
use native.Mathlib.Omega.{arith}
use Rattle.cluster.proofs.Rows.{row-of-no-cluster, row-past-the-end, row-shown}
use Rattle.cluster.proofs.row.Goals as goal

pub returns-then-work-ne-WORK : goal.returns-then-work-ne-WORK
returns-then-work-ne-WORK c = search (row-of-no-cluster)

pub returns-then-n-gt495 : goal.returns-then-n-gt495
returns-then-n-gt495 c = search (row-past-the-end)

pub returns : goal.returns
returns c = let args = c.args in row-shown args.work.now args.n (omega arith) (omega arith)
