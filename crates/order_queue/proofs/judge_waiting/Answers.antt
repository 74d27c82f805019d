-- `judge_waiting` meets its contract: by whether the bench is waiting (Submits).
use Rattle.order_queue.proofs.Submits.{waiting-told}
use Rattle.order_queue.proofs.judge_waiting.Goals as goal

pub returns-then-order : goal.returns-then-order
returns-then-order c = waiting-told c.args.queue c.args.bench c.order_of-order.ensures c.if-order.true

pub returns : goal.returns
returns c = waiting-told c.args.queue c.args.bench c.order_of-order.ensures c.if-order.false
