-- `take` meets its contract: the order that was there (Serves).
use Rattle.order_queue.proofs.Serves.{taken-told}
use Rattle.order_queue.proofs.take.Goals as goal

pub returns : goal.returns
returns c = taken-told c.args.queue c.args.bench c.order_of-order.ensures
