-- `submit` meets its contract: the order is stored, and refused (Submits).
use Rattle.order_queue.proofs.Submits.{stored-told, refused-told}
use Rattle.order_queue.proofs.submit.Goals as goal

pub returns-then-is_done : goal.returns-then-is_done
returns-then-is_done c = stored-told _ _ _ c.judge_submit-answer.ensures c.is_done.ensures c.if-is_done.true c.with_order-longer.ensures c.quiet.ensures

pub returns : goal.returns
returns c = refused-told _ _ _ c.judge_submit-answer.ensures c.is_done.ensures c.if-is_done.false c.quiet-2.ensures
