-- What writing the frames leaves in a slice: `before` at entry, `after` at exit.
use Rattle.std.specs.Prelude.{◌≡◌, Bool, List, ℕ}
use Rattle.std.proofs.lemmas.List.Edits.{sets}
use Rattle.bits.specs.Bits.{bits_of}
use Rattle.modulation.specs.Bits.{bits}
use Rattle.modulation.specs.Stream as Stream
use Rattle.recording.specs.Recording.{recording_of}

-- the frames below n stand from bit `at` on, and all else is as it was; the answer is # of the next sync
pub record FramesWritten (first : Bool) (work dc before : List ℕ) (at n : ℕ) (after : List ℕ) (answer : Bool) : Type 0 where
  pub bits_are : bits_of after ≡ sets (bits_of before) at (bits (Stream.run (recording_of first work dc) n))
  pub next-is : answer ≡ Stream.hash (recording_of first work dc) n
