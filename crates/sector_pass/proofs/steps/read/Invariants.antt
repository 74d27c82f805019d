-- `read` meets its contract: what the pass keeps, eight bytes or one more each turn (Pass).
use Prim.Native.Nat.{◌*◌}
use Rattle.sector_pass.specs.Pass.{PassReading}
use Rattle.sector_pass.proofs.steps.read.Given as goal

abbrev pub invariant-loop-k : goal.invariant-loop-k
invariant-loop-k l = PassReading l.frame l.stream (8 * l.k) l.register

abbrev pub invariant-loop-k-2 : goal.invariant-loop-k-2
invariant-loop-k-2 l = PassReading l.frame l.stream l.k l.register
