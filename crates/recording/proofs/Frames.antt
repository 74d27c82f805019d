-- Every frame of a recording has 1,268 bits. Assumes nothing.
use mathlib.Core.Path.{ap, ◌∙◌}
use mathlib.Core.Bool.{Bool}
use mathlib.Core.List.{List}
use Prim.Native.Nat.{ℕ, ◌/◌}
use lib.ListN.{get_or}
use Rattle.modulation.specs.Stream.{Full}
use Rattle.modulation.proofs.Bits.{length_pairs}
use Rattle.frame_bits.specs.FrameBits.{frame_bits}
use Rattle.frame_bits.proofs.FrameBits.{length-frame-bits}
use Rattle.cluster.specs.EccCluster.{row_of}
use Rattle.recording.specs.Recording.{recording_of}

pub full-of : (first : Bool) (work dc : List ℕ) (n : ℕ) → Full (recording_of first work dc) n
full-of first work dc n k h = length_pairs (frame_bits (row_of work k) (get_or dc k 0)) ∙ ap (λ (m : ℕ). m / 2) (length-frame-bits (row_of work k) (get_or dc k 0))
