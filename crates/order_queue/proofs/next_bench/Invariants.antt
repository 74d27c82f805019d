-- `next_bench` meets its contract: a search from the bench at which a serve begins (Serves).
use Prim.Native.Nat.{◌-◌}
use Rattle.order_queue.proofs.Serves.{Passing}
use Rattle.order_queue.proofs.next_bench.Given as goal

abbrev pub invariant-loop-passed : goal.invariant-loop-passed
invariant-loop-passed l = Passing (record { orders = l.orders; turn = l.turn }) l.passed l.bench

abbrev pub decreases-loop-passed : goal.decreases-loop-passed
decreases-loop-passed l = 4 - l.passed
