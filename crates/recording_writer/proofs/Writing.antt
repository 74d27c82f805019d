-- The frames of a recording, one written behind the other. Assumes nothing.
use mathlib.Core.Path.{◌≡◌, refl, sym, ap, ap₂, subst, subst₂, ◌∙◌}
use mathlib.Core.Bool.{Bool}
use mathlib.Core.List.{List, ◌++◌}
use Prim.Native.Nat.{ℕ, suc, ◌+◌, ◌*◌, ◌<◌, ◌≤◌}
use native.Mathlib.Numerals.{add-one}
use native.Mathlib.Omega.{arith}
use borrow.Author.Tests.{eq-eqb, le-leb}
use lib.ListN.{length, get_or}
use lib.Seq.{sets, length-sets}
use Rattle.laws.proofs.Fill.{sets-append}
use Rattle.bits.specs.Bits.{bits_of}
use Rattle.bits.proofs.Bits as B
use Rattle.modulation.specs.Bits.{bits}
use Rattle.modulation.specs.Sync.{FS, sync_number}
use Rattle.modulation.specs.Stream as Stream
use Rattle.modulation.proofs.Bits.{bits-append}
use Rattle.modulation.proofs.Streams.{length-run-bits}
use Rattle.frame_sync.specs.Sync.{fs, fs_number}
use Rattle.frame_sync.proofs.SyncTables.{fs-number}
use Rattle.frame.specs.Frame.{frame, frame_groups}
use Rattle.frame_writer.specs.steps.Written.{FrameWritten}
use Rattle.cluster.specs.EccCluster.{row_of, shown_row}
use Rattle.cluster.proofs.Rows.{length-row}
use Rattle.recording.specs.Recording.{recording_of}
use Rattle.recording_writer.specs.steps.Written.{FramesWritten}
use Rattle.recording.proofs.Frames.{full-of}

-- ---- a frame

-- the row that is shown is the row
row_is : (work row : List ℕ) (n : ℕ) → length work ≡ 76880 → n < 496 → row ≡ shown_row work n → row ≡ row_of work n
row_is work row n size h e = e ∙ rw (eq-eqb (length work) 76880 size, le-leb n 495 (omega arith))

pub row-size : (work row : List ℕ) (n : ℕ) → length work ≡ 76880 → n < 496 → row ≡ shown_row work n → length row ≡ 155
row-size work row n size h e = ap (length {A = ℕ}) (row_is work row n size h e) ∙ length-row work size n h

pub frame-put : (work row before after : List ℕ) (n number at dc : ℕ) (hash r : Bool) → length work ≡ 76880 → n < 496 → row ≡ shown_row work n
    → number ≡ fs_number (sync_number n) → FrameWritten (fs number) hash row dc before at after r → FrameWritten (sync_number n) hash (row_of work n) dc before at after r
frame-put work row before after n number at dc hash r size h e f w =
    subst₂ (λ (m : FS) (l : List ℕ). FrameWritten m hash l dc before at after r) (ap fs f ∙ fs-number (sync_number n)) (row_is work row n size h e) w

-- ---- the frames

module _ (first : Bool) (work dc before : List ℕ) (at : ℕ) where
  abbrev c : Stream.Recording
  c = recording_of first work dc

  pub frames-none : FramesWritten first work dc before at 0 before first
  frames-none = record { bits_are = unfold Stream.run in refl; next-is = refl }

  -- frame n, behind the frames before it
  pub frames-more : (now after : List ℕ) (n : ℕ) (hash r : Bool) → FramesWritten first work dc before at n now hash
      → FrameWritten (sync_number n) hash (row_of work n) (get_or dc n 0) now (at + 1932 * n) after r → FramesWritten first work dc before at (n + 1) after r
  frames-more now after n hash r w f =
      record {
        bits_are =
            f.bits_are
            ∙ ap₂ (λ (l : List ℕ) (p : ℕ). sets l p written) w.bits_are place
            ∙ sym (sets-append (bits (Stream.run c n)) written (bits_of before) at)
            ∙ ap (sets (bits_of before) at) (ap (◌++◌ (bits (Stream.run c n))) written_is ∙ sym (ap (λ (k : ℕ). bits (Stream.run c k)) (add-one n) ∙ run_more));
        next-is = f.next-is ∙ sym (ap (Stream.hash c) (add-one n));
      }
    where
      written : List ℕ
      written = frame hash (sync_number n) (row_of work n) (get_or dc n 0)

      written_is : written ≡ bits (Stream.recorded c n)
      written_is = unfold frame in ap (λ (b : Bool). bits (frame_groups b (sync_number n) (row_of work n) (get_or dc n 0))) w.next-is

      place : at + 1932 * n ≡ at + length (bits (Stream.run c n))
      place = ap (◌+◌ at) (sym (length-run-bits c n (full-of first work dc n)))

      run_more : bits (Stream.run c (suc n)) ≡ bits (Stream.run c n) ++ bits (Stream.recorded c n)
      run_more = unfold Stream.run in bits-append (Stream.run c n) (Stream.recorded c n)

  pub frames-end : (after : List ℕ) (n : ℕ) (r : Bool) → n ≤ 496 → 496 ≤ n → FramesWritten first work dc before at n after r → FramesWritten first work dc before at 496 after r
  frames-end after n r h k w = subst (λ (m : ℕ). FramesWritten first work dc before at m after r) {x = n} {y = 496} (omega arith) w

-- the slice keeps its length
pub frames-size : {first : Bool} {work dc before : List ℕ} {at n : ℕ} {after : List ℕ} {r : Bool} → FramesWritten first work dc before at n after r → length after ≡ length before
frames-size {first} {work} {dc} {before} {at} {n} {after} w =
    let written = bits (Stream.run (recording_of first work dc) n) in
    omega (arith, B.length-bits after, B.length-bits before, ap (length {A = ℕ}) w.bits_are, length-sets (bits_of before) at written)
