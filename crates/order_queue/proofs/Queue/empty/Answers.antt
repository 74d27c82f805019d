-- `Queue::empty` meets its contract: computed.
use mathlib.Core.Path.{refl}
use Rattle.order_queue.specs.Queue.{empty_queue}
use Rattle.order_queue.proofs.Queue.empty.Goals as goal

pub returns : goal.returns
unfolding empty_queue
returns c = refl
