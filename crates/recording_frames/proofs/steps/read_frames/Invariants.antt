-- `read_frames` meets its contract: each turn reads two frames behind those before them (Reading). Assumes nothing.
use mathlib.Core.Path.{◌≡◌}
use Prim.Native.Nat.{◌*◌}
use lib.ListN.{drop}
use Rattle.bits.specs.Bits.{bits_of}
use Rattle.automaton.specs.steps.Table.{table}
use Rattle.recording_frames.proofs.Reading.{Below}
use Rattle.recording_frames.proofs.steps.read_frames.Given as goal

abbrev pub invariant-loop-pair : goal.invariant-loop-pair
invariant-loop-pair l = (l.steps ≡ table) × Below (drop l.at (bits_of l.image)) (2 * l.pair) l.dc l.work
