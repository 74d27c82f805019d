-- The bits of a recording: tests 10 and 11 are passed, and the first #, the ECC cluster and the dc words are read. Assumes nothing.
use mathlib.Core.Path.{◌≡◌, sym, ap, ◌∙◌}
use mathlib.Core.Bool.{Bool, false, not}
use mathlib.Core.List.{List, ◌++◌}
use Prim.Native.Nat.{ℕ, suc, ◌+◌, ◌*◌, ◌/◌, ◌%◌, ◌^◌, ◌<◌, ◌≤◌}
use native.Mathlib.Numerals.{add-one}
use native.Mathlib.Omega.{arith}
use lib.ListN.{length, get_or, take, drop, length-drop}
use lib.Seq.{get_or-take, get_or-drop, take-append-le, drop-append-le}
use Rattle.laws.specs.Bytes.{Bytes}
use Rattle.laws.proofs.First.{first-none}
use Rattle.laws.proofs.Tabulate.{is-tabulate}
use Rattle.modulation.specs.Bits.{bits}
use Rattle.modulation.specs.Sync.{sync, sync_number}
use Rattle.modulation.specs.Stream.{Recording, hash, stream}
use Rattle.modulation.proofs.Streams.{length-stream, frame-bits, sync-bits}
use Rattle.frame_bits.specs.FrameBits.{frame_bits, row_from, dc_from}
use Rattle.frame_bits.proofs.FrameBits.{row_back, dc-word-back}
use Rattle.frame_sync.specs.Sync.{hash_at}
use Rattle.frame_sync.proofs.SyncRight.{hash-as-read, sync-is-right}
use Rattle.frame.specs.Frame.{frame}
use Rattle.frame.specs.Reading.{RowGives}
use Rattle.frame.proofs.Frame.{read-body}
use Rattle.frame.proofs.Reading.{row-bits, bits-read, gives-readable}
use Rattle.cluster.specs.EccCluster as Ecc
use Rattle.cluster.proofs.Rows.{length-row, bytes-row}
use Rattle.recording.specs.Recording.{recording_of}
use Rattle.recording.specs.Reading.{wrong_sync, first_wrong_sync, first_hash, modulated_at, hash_behind, no_frame, first_no_frame, frame_bits_in, cluster_byte, cluster_in, dc_word_in, dc_in}
use Rattle.recording.proofs.Frames.{full-of}

-- a part of the front
part : (l z : List ℕ) (k m : ℕ) → k + m ≤ length l → take m (drop k (l ++ z)) ≡ take m (drop k l)
part l z k m h = ap (take m) (drop-append-le k l z (omega arith)) ∙ take-append-le m (drop k l) z (omega (arith, length-drop k l))

-- an ECC cluster and its dc words
pub record Recordable (work dc : List ℕ) : Type 0 where
  pub size : length work ≡ 76880
  pub bytes : Bytes work
  pub words : length dc ≡ 496
  pub small : (n : ℕ) → n < 496 → get_or dc n 0 < 2 ^ 28

-- bits b in whose front their recording stands
module _ (first : Bool) (work dc b z : List ℕ) (is : Recordable work dc) (there : b ≡ bits (stream (recording_of first work dc) 496) ++ z) where
  abbrev c : Recording
  c = recording_of first work dc

  size : length (bits (stream c 496)) ≡ 958302
  size = length-stream c 496 (full-of first work dc 496)

  -- ---- 10

  part_of : (k m : ℕ) → k + m ≤ 958302 → take m (drop k b) ≡ take m (drop k (bits (stream c 496)))
  part_of k m h = ap (λ (l : List ℕ). take m (drop k l)) there ∙ part (bits (stream c 496)) z k m (omega (arith, size))

  sync-there : (n : ℕ) → n ≤ 496 → take 30 (drop (1932 * n) b) ≡ bits (sync (hash c n) (sync_number n))
  sync-there n h = part_of (1932 * n) 30 (omega arith) ∙ sync-bits c 496 n (full-of first work dc 496) h

  hash-there : (n : ℕ) → n ≤ 496 → hash_at b (1932 * n) ≡ hash c n
  hash-there n h = hash-as-read (sync_number n) b (1932 * n) (hash c n) (sync-there n h)

  right-sync : (n : ℕ) → n < 497 → wrong_sync b n ≡ false
  unfolding wrong_sync
  right-sync n h = ap not (sync-is-right (sync_number n) b (1932 * n) (hash c n) (sync-there n (omega arith)))

  pub right-syncs : first_wrong_sync b ≡ 497
  unfolding first_wrong_sync
  right-syncs = first-none 497 (wrong_sync b) (record { fails = right-sync })

  -- ---- 11

  row-size : (n : ℕ) → n < 496 → length (Ecc.row_of work n) ≡ 155
  row-size n h = length-row work is.size n h

  row-bytes : (n : ℕ) → Bytes (Ecc.row_of work n)
  row-bytes n = bytes-row work is.bytes n

  frame-there : (n : ℕ) → n < 496 → take 1932 (drop (1932 * n) b) ≡ frame (hash c n) (sync_number n) (Ecc.row_of work n) (get_or dc n 0)
  unfolding frame
  frame-there n h = part_of (1932 * n) 1932 (omega arith) ∙ frame-bits c 496 n (full-of first work dc 496) h

  given : (n : ℕ) → n < 496 → RowGives (sync_number n) (Ecc.row_of work n) (get_or dc n 0) (modulated_at b n) (hash_behind b n)
  given n h =
      rw (ap (λ (k : ℕ). hash_at b (1932 * k)) (add-one n) ∙ hash-there (suc n) h)
      (read-body (sync_number n) b (1932 * n) (Ecc.row_of work n) (get_or dc n 0) (hash c n) (frame-there n h) (row-size n h) (row-bytes n) (is.small n h))

  -- the 1,268 bits that are read are those of row and dc word
  bits-there : (n : ℕ) → n < 496 → frame_bits_in b n ≡ frame_bits (Ecc.row_of work n) (get_or dc n 0)
  bits-there n h = sym (bits-read (sync_number n) (modulated_at b n) (hash_behind b n) (row-bits (given n h)))

  a-frame : (n : ℕ) → n < 496 → no_frame b n ≡ false
  unfolding no_frame
  a-frame n h = ap not (gives-readable (sync_number n) (modulated_at b n) (hash_behind b n) (row-bits (given n h)))

  pub all-frames : first_no_frame b ≡ 496
  unfolding first_no_frame
  all-frames = first-none 496 (no_frame b) (record { fails = a-frame })

  -- ---- what is read

  pub first-there : first_hash b ≡ first
  first-there = hash-there 0 (omega arith)

  pub cluster-there : cluster_in b ≡ work
  unfolding cluster_in
  cluster-there =
      sym (is-tabulate 0 76880 (cluster_byte b) work is.size (λ k h. sym (byte k h)))
    where
      byte : (k : ℕ) → k < 76880 → cluster_byte b k ≡ get_or work k 0
      byte k h =
          let n = k / 155 in
          let hn : n < 496 = omega arith in
          let whole : 155 * n + k % 155 ≡ k = omega arith in
          ap (λ (l : List ℕ). get_or (row_from l) (k % 155) 0) (bits-there n hn)
          ∙ ap (λ (l : List ℕ). get_or l (k % 155) 0) (row_back (Ecc.row_of work n) (get_or dc n 0) (row-size n hn) (row-bytes n))
          ∙ get_or-take 155 (drop (155 * n) work) (k % 155) 0 (omega arith)
          ∙ get_or-drop (155 * n) work (k % 155) 0
          ∙ ap (λ (j : ℕ). get_or work j 0) whole

  pub dc-there : dc_in b ≡ dc
  unfolding dc_in
  dc-there =
      sym (is-tabulate 0 496 (dc_word_in b) dc is.words (λ n h. sym (ap dc_from (bits-there n h) ∙ dc-word-back (Ecc.row_of work n) (get_or dc n 0) (is.small n h))))
