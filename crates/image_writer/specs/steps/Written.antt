-- What the steps of writing leave in the image: `before` at entry, `after` at exit.
use Rattle.std.specs.Prelude.{◌≡◌, Bool, List, [], ◌∷◌, ◌++◌, ℕ}
use Rattle.bits.specs.Bits.{bits_of}
use Rattle.modulation.specs.Bits.{bits}
use Rattle.modulation.specs.Stream as Stream
use Rattle.image.specs.Image.{Input, cluster, image}
use Rattle.recording.specs.Recording.{recording_of}
use Rattle.sizes.specs.Sizes.{frame_count}

-- the 496 frames, the sync that follows, and two zero bits
pub record ImageWritten (first : Bool) (work dc after : List ℕ) : Type 0 where
  pub whole : bits_of after ≡ bits (Stream.stream (recording_of first work dc) frame_count) ++ (0 ∷ 0 ∷ [])

-- the slices as they are when all is written
pub record Filled (input : Input) (after work : List ℕ) : Type 0 where
  pub image-is : after ≡ image input
  pub work-is : work ≡ cluster input
