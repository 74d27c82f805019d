-- `low` meets its contract (laws, Shifts). Assumes nothing.
use mathlib.Core.Path.{ap}
use Prim.Native.Nat.{ℕ, ◌%◌}
use Rattle.laws.proofs.Shifts.{weight, weight-some}
use Rattle.held_bits.proofs.steps.low.Goals as goal

pub nonzero_rem-result : goal.nonzero_rem-result
nonzero_rem-result c = weight-some 64 c.args.lag c.requires

pub returns : goal.returns
returns c = ap (λ (w : ℕ). c.args.v % w) (weight 64 c.args.lag c.requires)
