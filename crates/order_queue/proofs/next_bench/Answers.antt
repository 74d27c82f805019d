-- `next_bench` meets its contract: a search from the bench at which a serve begins (Serves).
use Prim.Native.Nat.{◌-◌}
use native.Mathlib.Omega.{arith}
use borrow.Author.Rules.{rules}
use Rattle.order_queue.proofs.Serves.{passing-none, passing-found, passing-on, passing-all}
use Rattle.order_queue.proofs.next_bench.Goals as goal

pub loop-passed-init : goal.loop-passed-init
loop-passed-init c = let began = c.begins_at-bench.ensures in passing-none c.args.queue began.0 began.1

pub returns-then-order : goal.returns-then-order
returns-then-order c = passing-found _ c.loop-passed.invariant c.order_of-order.ensures (search rules) c.if-order.true

pub overflow_add-bench : goal.overflow_add-bench
overflow_add-bench c = omega (arith, c.loop-passed.invariant.small)

pub loop-passed-preserved : goal.loop-passed-preserved
loop-passed-preserved c = passing-on _ c.loop-passed.invariant c.order_of-order.ensures c.if-order.false

pub returns : goal.returns
returns c = passing-all _ c.loop-passed.invariant (search rules)
