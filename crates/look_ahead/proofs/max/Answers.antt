-- `max` meets its contract. Assumes nothing.
use native.Mathlib.Omega.{arith}
use Rattle.look_ahead.proofs.max.Goals as goal

pub returns-then-m-n : goal.returns-then-m-n
returns-then-m-n c = omega (arith, c.if-m-n.true)

pub returns : goal.returns
returns c = omega (arith, c.if-m-n.false)
