-- 13.14 to 13.17: the physical cluster of an input, 496 modulated recording frames, and the frame sync that follows it (14.2.3.2).
use Rattle.std.specs.Prelude.{◌≡◌, Bool, List, [], ◌∷◌, ◌++◌, ℕ, ◌≤◌, ◌<◌, length, get_or}
use Rattle.bits.specs.Bits.{packed}
use Rattle.answer.specs.declared.Answer.TheVariants.{Done}
use Rattle.address.specs.Judged.{judged}
use Rattle.modulation.specs.Bits.{bits}
use Rattle.modulation.specs.Stream.{Recording, stream}
use Rattle.bis.specs.AccessBlock.{Side}
use Rattle.cluster.specs.EccCluster.{User, ecc_cluster}
use Rattle.recording.specs.Recording.{recording_of}
use Rattle.sizes.specs.Sizes.{frame_count}

-- what an image is made of; side data is document 01's term for the flag bytes and the user control data (the demand's control data)
pub record Input : Type 0 where
  pub user : List ℕ
  pub psn : ℕ
  pub side : List ℕ
  pub dc : List ℕ
  -- # of the sync of frame 0; 14.2.2.4 leaves it free
  pub first : Bool

-- 496 dc words, one for each frame, none above 0FFFFFFFh
pub record DcWords (dc : List ℕ) : Type 0 where
  pub size : length dc ≡ frame_count
  pub small : (n : ℕ) → n < frame_count → get_or dc n 0 ≤ 0x0FFF_FFFF

-- 65,536 user bytes, a PSN that is a multiple of 32 and lies in a data zone, 592 bytes of side data, 496 dc words; either first #
pub record IsAccepted (input : Input) : Type 0 where
  pub user : User input.user
  pub psn : judged input.psn ≡ Done
  pub side : Side input.side
  pub dc : DcWords input.dc

-- its ECC cluster
abbrev pub cluster : Input → List ℕ
cluster input = ecc_cluster input.user input.psn input.side

-- its recording
abbrev pub recording : Input → Recording
recording input = recording_of input.first (cluster input) input.dc

-- the 496 frames and the sync that follows, FS0: 958,302 bits
unfoldable pub image_bits : Input → List ℕ
image_bits input = bits (stream (recording input) frame_count)

-- then two zero bits, and packed msb first: 119,788 bytes
unfoldable pub image : Input → List ℕ
image input = packed (image_bits input ++ (0 ∷ 0 ∷ []))
