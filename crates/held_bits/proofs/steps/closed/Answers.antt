-- `closed` meets its contract (modulator, Tables). Assumes nothing.
use mathlib.Core.Path.{ap}
use Prim.Native.Nat.{ℕ, ◌+◌}
use Rattle.modulator.proofs.Tables.{shifted_up, shifted_fits}
use Rattle.held_bits.proofs.steps.closed.Goals as goal

pub overflow_add-result : goal.overflow_add-result
overflow_add-result c = record { fits = shifted_fits c.args.v c.args.lag c.args.last c.requires.0 c.requires.1 c.ranges.last.fits }

pub returns : goal.returns
returns c = ap (λ (n : ℕ). n + c.args.last) (shifted_up c.args.v c.args.lag c.args.last c.requires.0 c.requires.1)
