-- `judge_submit` meets its contract: three tests in order (Submits).
use Rattle.order_queue.proofs.Submits.{judges}
use Rattle.order_queue.proofs.judge_submit.Goals as goal

pub returns : goal.returns
returns c = let args = c.args in
    judges args.queue args.bench args.psn.0 c.judge_bench-number.ensures c.judge_waiting-waiting.ensures c.judge-accepted.ensures c.and_then.ensures c.and_then-2.ensures
