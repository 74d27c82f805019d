-- `put_frames` meets its contract: each turn writes a frame behind those before it (Writing).
use mathlib.Core.Path.{◌≡◌}
use Rattle.modulator.specs.steps.Table.{lent_table}
use Rattle.recording_writer.specs.steps.Written.{FramesWritten}
use Rattle.recording_writer.proofs.steps.put_frames.Given as goal

abbrev pub invariant-loop-n : goal.invariant-loop-n
invariant-loop-n l = (l.table ≡ lent_table) × FramesWritten l.initial.state.hash l.work l.dc l.initial.image l.at l.n l.image l.state.hash
