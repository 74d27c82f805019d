-- `serve` meets its contract: an order is taken, and none is waiting (Serves).
use Rattle.order_queue.proofs.Serves.{serves-one, serves-none}
use Rattle.order_queue.proofs.serve.Goals as goal

pub returns-then-bench-lt-BENCHES : goal.returns-then-bench-lt-BENCHES
returns-then-bench-lt-BENCHES c = serves-one _ c.next_bench-bench.ensures c.if-bench-lt-BENCHES.true c.take.ensures

pub returns : goal.returns
returns c = serves-none _ c.next_bench-bench.ensures c.if-bench-lt-BENCHES.false
