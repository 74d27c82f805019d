-- The frames, the sync that follows them and two zero bits are the image. Assumes nothing.
use mathlib.Core.Path.{◌≡◌, refl, sym, ap, ◌∙◌}
use mathlib.Core.Bool.{Bool}
use mathlib.Core.List.{List, [], ◌∷◌, ◌++◌, append_assoc}
use Prim.Native.Nat.{ℕ, ◌+◌, ◌*◌, ◌%◌}
use native.Mathlib.Omega.{arith}
use lib.ListN.{length, set, length-append}
use lib.Seq.{sets}
use Rattle.laws.specs.Bytes.{Bytes}
use Rattle.laws.proofs.Fill.{sets-append, sets-whole}
use Rattle.bits.specs.Bits.{bits_of, packed}
use Rattle.bits.proofs.Bits as B
use Rattle.bits.proofs.Pack.{packed-bits}
use Rattle.modulation.specs.Bits.{bits}
use Rattle.modulation.specs.Sync.{sync, sync_number}
use Rattle.modulation.specs.Stream as Stream
use Rattle.modulation.proofs.Bits.{bits-append, length-bits}
use Rattle.modulation.proofs.Streams.{length-sync, length-run-bits}
use Rattle.frame_sync.specs.Sync.{fs}
use Rattle.frame_sync.specs.steps.Written.{SyncWritten}
use Rattle.cluster.specs.EccCluster.{ecc_cluster}
use Rattle.recording.specs.Recording.{recording_of}
use Rattle.recording_writer.specs.steps.Written.{FramesWritten}
use Rattle.recording.proofs.Frames.{full-of}
use Rattle.image.specs.Image.{Input, cluster, image_bits, image}
use Rattle.image_writer.specs.steps.Written.{ImageWritten, Filled}

-- the frames, the sync that follows the last, and two zero bits
pub image-done : (first : Bool) (work dc before now synced third fourth : List ℕ) (hash : Bool) → length before ≡ 119788 → FramesWritten first work dc before 0 496 now hash
    → SyncWritten (fs 0) hash now 958272 synced → bits_of third ≡ set (bits_of synced) 958302 (0 % 2) → bits_of fourth ≡ set (bits_of third) 958303 (0 % 2)
    → ImageWritten first work dc fourth
image-done first work dc before now synced third fourth hash size w s e f =
    record {
      whole =
          f
          ∙ ap (λ (l : List ℕ). set l 958303 0) e
          ∙ ap (λ (l : List ℕ). sets l 958302 zeros) s.bits_are
          ∙ sym (sets-append closing zeros (bits_of now) 958272 ∙ ap (λ (k : ℕ). sets (sets (bits_of now) 958272 closing) k zeros) behind-sync)
          ∙ ap (λ (l : List ℕ). sets l 958272 (closing ++ zeros)) w.bits_are
          ∙ sym (sets-append frames (closing ++ zeros) (bits_of before) 0 ∙ ap (λ (k : ℕ). sets (sets (bits_of before) 0 frames) k (closing ++ zeros)) behind-frames)
          ∙ sets-whole (frames ++ (closing ++ zeros)) (bits_of before) all
          ∙ sym (append_assoc frames closing zeros)
          ∙ ap (λ (l : List ℕ). l ++ zeros) stream-is;
    }
  where
    c : Stream.Recording
    c = recording_of first work dc

    frames : List ℕ
    frames = bits (Stream.run c 496)

    closing : List ℕ
    closing = bits (sync hash (fs 0))

    zeros : List ℕ
    zeros = 0 ∷ 0 ∷ []

    frames-long : length frames ≡ 958272
    frames-long = length-run-bits c 496 (full-of first work dc 496)

    closing-long : length closing ≡ 30
    closing-long = length-bits (sync hash (fs 0)) ∙ ap (λ (k : ℕ). 3 * k) (length-sync hash (fs 0))

    behind-sync : 958272 + length closing ≡ 958302
    behind-sync = omega (arith, closing-long)

    behind-frames : 0 + length frames ≡ 958272
    behind-frames = omega (arith, frames-long)

    all : length (frames ++ (closing ++ zeros)) ≡ length (bits_of before)
    all = omega (arith, length-append frames (closing ++ zeros), length-append closing zeros, frames-long, closing-long, B.length-bits before, size)

    last : bits (sync (Stream.hash c 496) (fs 0)) ≡ bits (sync (Stream.hash c 496) (sync_number 496))
    last = unfold fs sync_number in refl

    stream-is : frames ++ closing ≡ bits (Stream.stream c 496)
    stream-is =
        ap (◌++◌ frames) (ap (λ (b : Bool). bits (sync b (fs 0))) w.next-is ∙ last)
        ∙ sym (bits-append (Stream.run c 496) (sync (Stream.hash c 496) (sync_number 496)))

-- ---- the bytes

pub image-is : (input : Input) (work after : List ℕ) → Bytes after → work ≡ cluster input → ImageWritten input.first work input.dc after → after ≡ image input
unfolding image image_bits
image-is input work after bytes e w =
    sym (packed-bits after bytes) ∙ ap packed (w.whole ∙ ap (λ (l : List ℕ). bits (Stream.stream (recording_of input.first l input.dc) 496) ++ (0 ∷ 0 ∷ [])) e)

pub filled : (input : Input) (work after : List ℕ) → Bytes after → work ≡ ecc_cluster input.user input.psn input.side → ImageWritten input.first work input.dc after → Filled input after work
filled input work after bytes e w = record { image-is = image-is input work after bytes e w; work-is = e }
