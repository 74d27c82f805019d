-- An accepted input exists; the first # is a part of its own; and what is tallied of a frame is counted in the image. Assumes nothing.
use mathlib.Core.Path.{◌≡◌, refl, sym, ap, ◌∙◌}
use mathlib.Core.Bool.{Bool, true, false}
use mathlib.Core.List.{List, [], ◌∷◌}
use Prim.Native.Nat.{ℕ, suc, ◌*◌, ◌^◌, ◌<◌}
use native.Mathlib.Omega.{arith}
use lib.ListN.{length, get_or, take, drop, length-drop}
use lib.Seq.{take-append-le, drop-append-le}
use Rattle.std.specs.Prelude.{Some, IsSomeAnd}
use Rattle.laws.specs.Bytes.{Bytes}
use Rattle.laws.specs.HowMany.{how_many}
use Rattle.laws.specs.Tabulate.{tabulate}
use Rattle.laws.proofs.Tabulate.{length-tabulate, get_d_tabulate}
use Rattle.laws.proofs.Bytes.{bytes-tabulate}
use Rattle.address.specs.Judged.{judged}
use Rattle.bits.specs.Bits.{Bits, bits_of}
use Rattle.modulation.specs.Sync.{FS, sync_number}
use Rattle.modulation.specs.Stream.{hash}
use Rattle.modulation.proofs.Streams.{frame-bits}
use Rattle.frame_sync.specs.Sync.{fs_number}
use Rattle.frame.specs.Frame.{frame}
use Rattle.frame.proofs.Frame.{length-frame}
use Rattle.frame_sync.proofs.SyncTables.{fs-number, number_at}
use Rattle.gaps.specs.Gaps.{gap_counts, gap_at}
use Rattle.frame_gaps.specs.Tally.{tallied, input_of}
use Rattle.frame_gaps.proofs.FrameCounted.{bits-frame}
use Rattle.gaps.proofs.Neighbours.{counts-often}
use Rattle.frame_gaps.proofs.TallyCases.{bytes-input, frame-tallied}
use Rattle.cluster.specs.EccCluster.{row_of}
use Rattle.cluster.proofs.Statements.{length-cluster, bytes-cluster}
use Rattle.image.specs.Image.{Input, IsAccepted, cluster, recording, image_bits, image}
use Rattle.image.proofs.Recordings.{full}
use Rattle.cluster.proofs.Rows.{length-row, bytes-row}
use Rattle.image.proofs.Demand3.{image-size, image-bits, starting_with, image-first-bit}

-- ---- an accepted input

-- zone 0's first cluster, of zeros, with first # ZERO
abbrev pub zeros : Input
zeros = record { user = tabulate 65536 (λ _. 0); psn = 0x0010_0000; side = tabulate 592 (λ _. 0); dc = tabulate 496 (λ _. 0); first = false }

pub zeros-accepted : IsAccepted zeros
unfolding judged
zeros-accepted =
    record {
      user = record { size = length-tabulate 65536 (λ _. 0); bytes = bytes-tabulate 65536 (λ _. 0) (λ k h. omega arith) };
      psn = refl;
      side = record { size = length-tabulate 592 (λ _. 0); bytes = bytes-tabulate 592 (λ _. 0) (λ k h. omega arith) };
      dc = record { size = length-tabulate 496 (λ _. 0); small = λ n h. omega (arith, get_d_tabulate {A = ℕ} 496 (λ _. 0) n 0 h) };
    }

pub some-accepted : (input : Input) × IsAccepted input
some-accepted = (zeros, zeros-accepted)

-- ---- the first #

-- an accepted input is accepted with either first #
pub either_first : (h : Bool) (input : Input) → IsAccepted input → IsAccepted (starting_with h input)
either_first h input is = record { user = is.user; psn = is.psn; side = is.side; dc = is.dc }

-- the images of two accepted inputs are not always equal where the four other parts are
pub four-parts-fail : ((a b : Input) → IsAccepted a → IsAccepted b → a.user ≡ b.user → a.psn ≡ b.psn → a.side ≡ b.side → a.dc ≡ b.dc → image_bits a ≡ image_bits b) → ⊥
four-parts-fail all =
    let same = all (starting_with true zeros) zeros (either_first true zeros zeros-accepted) zeros-accepted refl refl refl refl in
    let bit : ◌≡◌ {A = ℕ} 1 0 = ap (λ (l : List ℕ). get_or l 0 0) (sym (image-first-bit true zeros) ∙ same ∙ image-first-bit false zeros) in
    omega arith

-- ---- the tally and the image

-- bits 1,932 n to 1,932 n + 1,931 of the image
abbrev pub frame_bits_of : Input → ℕ → List ℕ
frame_bits_of input n = take 1932 (drop (1932 * n) (image_bits input))

-- frame n: # and number of its sync, its row, its dc word
abbrev pub own_hash : Input → ℕ → Bool
own_hash input n = hash (recording input) n

abbrev pub own_number : ℕ → ℕ
own_number n = fs_number (sync_number n)

abbrev pub own_row : Input → ℕ → List ℕ
own_row input n = row_of (cluster input) n

abbrev pub own_dc : Input → ℕ → ℕ
own_dc input n = get_or input.dc n 0

-- the tally's input for it
abbrev pub frame_input : Input → ℕ → List ℕ
frame_input input n = input_of (own_hash input n) (own_number n) (own_row input n) (own_dc input n)

module _ (input : Input) (n : ℕ) (h : n < 496) where
  -- the bits of frame n stand in the image's bytes
  pub image-part : take 1932 (drop (1932 * n) (bits_of (image input))) ≡ frame_bits_of input n
  image-part =
      let size = image-size input in
      ap (λ (l : List ℕ). take 1932 (drop (1932 * n) l)) (image-bits input)
      ∙ ap (take 1932) (drop-append-le (1932 * n) (image_bits input) (0 ∷ 0 ∷ []) (omega arith))
      ∙ take-append-le 1932 (drop (1932 * n) (image_bits input)) (0 ∷ 0 ∷ []) (omega (arith, length-drop (1932 * n) (image_bits input)))

  -- they are the frame of its sync, row and dc word
  pub image-frame : frame_bits_of input n ≡ frame (own_hash input n) (sync_number n) (own_row input n) (own_dc input n)
  unfolding frame image_bits
  image-frame = frame-bits (recording input) 496 n (full input 496) h

  module _ (is : IsAccepted input) where
    row-size : length (own_row input n) ≡ 155
    row-size = length-row (cluster input) (length-cluster input.user input.psn input.side is.user is.psn is.side) n h

    number_small : own_number n < 7
    number_small = omega (arith, (number_at n).0, (number_at n).1)

    dc-small : own_dc input n < 2 ^ 28
    dc-small = omega (arith, is.dc.small n h)

    -- the tally's input is bytes
    pub input-bytes : Bytes (frame_input input n)
    input-bytes =
        bytes-input (own_hash input n) (own_number n) (own_row input n) (own_dc input n) row-size number_small dc-small
        (bytes-row (cluster input) (bytes-cluster input.user input.psn input.side is.user is.psn is.side) n)

    -- the tally of frame n: the gap counts of these bits
    pub image-tallied : tallied (frame_input input n) ≡ Some (gap_counts (frame_bits_of input n))
    image-tallied =
        frame-tallied (own_hash input n) (own_number n) (own_row input n) (own_dc input n) row-size number_small dc-small
        ∙ ap (λ (l : List ℕ). Some (gap_counts l)) (ap (λ (s : FS). frame (own_hash input n) s (own_row input n) (own_dc input n)) (fs-number (sync_number n)) ∙ sym image-frame)

    -- of each length from 1 to 8, how many of these bits begin such a gap
    pub image-often : (k : ℕ) → k < 8 → IsSomeAnd (tallied (frame_input input n)) (λ counts. get_or counts k 0 ≡ how_many 1932 (gap_at (frame_bits_of input n) (suc k)))
    image-often k hk =
        rw image-tallied
        (counts-often (frame_bits_of input n) all k hk
        ∙ ap (λ (m : ℕ). how_many m (gap_at (frame_bits_of input n) (suc k))) (ap length image-frame ∙ length-frame _ _ _ _))
      where
        all : Bits (frame_bits_of input n)
        all = rw image-frame (bits-frame _ _ _ _)
