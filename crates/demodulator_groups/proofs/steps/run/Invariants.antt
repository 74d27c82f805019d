-- `run` meets its contract: three groups a turn (Running). Assumes nothing.
use Prim.Native.Nat.{◌*◌}
use Rattle.bits.specs.Bits.{bits_of}
use Rattle.modulation.specs.steps.Groups.{groups_at}
use Rattle.automaton.specs.steps.Table.{After}
use Rattle.demodulator_groups.proofs.steps.run.Given as goal

abbrev pub invariant-loop-k : goal.invariant-loop-k
invariant-loop-k l = After (groups_at (bits_of l.bytes) l.at (3 * l.k)) l.s l.x
