-- The recording of an input. Assumes nothing.
use Prim.Native.Nat.{ℕ}
use Rattle.modulation.specs.Stream.{Full}
use Rattle.image.specs.Image.{Input, recording, cluster}
use Rattle.recording.proofs.Frames.{full-of}

pub full : (input : Input) (n : ℕ) → Full (recording input) n
full input n = full-of input.first (cluster input) input.dc n
