-- `last_pairs` meets its contract (laws, Shifts). Assumes nothing.
use mathlib.Core.Path.{ap}
use Prim.Native.Nat.{ℕ, ◌*◌, ◌%◌}
use native.Mathlib.Omega.{arith}
use Rattle.laws.proofs.Shifts.{weight, weight-some}
use Rattle.few_pairs.proofs.steps.last_pairs.Goals as goal

pub nonzero_rem-result : goal.nonzero_rem-result
nonzero_rem-result c = weight-some 32 (2 * c.args.count) (omega arith)

pub returns : goal.returns
returns c = ap (λ (x : ℕ). c.args.pairs % x) (weight 32 (2 * c.args.count) (omega arith))
