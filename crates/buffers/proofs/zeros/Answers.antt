-- `zeros` meets its contract: computed.
use mathlib.Core.Path.{refl}
use Prim.Native.Nat.{ℕ}
use lib.ListN.{length-replicate}
use Rattle.laws.specs.Zeros.{zeros}
use Rattle.buffers.proofs.zeros.Goals as goal

pub returns : goal.returns
unfolding zeros
returns g c = (length-replicate {A = ℕ} g.row.N 0, refl)
