-- `begins_at` meets its contract: a turn that names a bench, and another (Serves).
use borrow.Author.Rules.{rules}
use Rattle.order_queue.proofs.Serves.{begins-named, begins-else}
use Rattle.order_queue.proofs.begins_at.Goals as goal

pub returns-then-turn-lt4 : goal.returns-then-turn-lt4
returns-then-turn-lt4 c = (search rules, begins-named c.if-turn-lt4.true)

pub returns : goal.returns
returns c = (search rules, begins-else c.if-turn-lt4.false)
