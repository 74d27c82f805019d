-- `judge_bench` meets its contract: a bench, and a number above 3 (Submits).
use Rattle.order_queue.proofs.Submits.{bench-right, bench-wrong}
use Rattle.order_queue.proofs.judge_bench.Goals as goal

pub returns-then-bench-lt4 : goal.returns-then-bench-lt4
returns-then-bench-lt4 c = bench-right c.if-bench-lt4.true

pub returns : goal.returns
returns c = bench-wrong c.if-bench-lt4.false
