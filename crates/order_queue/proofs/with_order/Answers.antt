-- `with_order` meets its contract: a bench, for which it is computed, and another.
use mathlib.Core.Path.{refl}
use native.Mathlib.Omega.{arith}
use Rattle.order_queue.proofs.with_order.Goals as goal

pub returns-then-at-ge-BENCHES : goal.returns-then-at-ge-BENCHES
returns-then-at-ge-BENCHES c = λ h. absurd (omega (arith, h, c.if-at-ge-BENCHES.true))

pub returns : goal.returns
returns c = λ h. refl
