-- A frame has 1,932 bits: a right sync, and what its row and dc word give. Assumes nothing.
use mathlib.Core.Bool.{Bool, true, false}
use mathlib.Core.List.{List, ◌++◌, append_cancel_left}
use mathlib.Core.Path.{◌≡◌, sym, ap, ap₂, ◌∙◌}
use Prim.Native.Nat.{ℕ, ◌+◌, ◌^◌, ◌<◌}
use native.Mathlib.Omega.{arith}
use lib.ListN.{length, take, drop, length-append}
use lib.Seq.{take_at, take-add, take-take, drop-drop}
use Rattle.laws.specs.Bytes.{Bytes}
use Rattle.modulation.specs.Modulation.{last_bit}
use Rattle.modulation.specs.Bits.{bits}
use Rattle.modulation.specs.Sync.{FS, sync, sync_id}
use Rattle.modulation.specs.Stream.{modulated}
use Rattle.modulation.proofs.Bits.{bits-append}
use Rattle.modulation.proofs.Statements.{size-of-a-frame}
use Rattle.frame_bits.specs.FrameBits.{frame_bits}
use Rattle.frame_sync.specs.Sync.{hash_at, sync_right}
use Rattle.frame.specs.Frame.{frame_pairs, frame, next_hash}
use Rattle.frame.specs.Reading.{RowGives}
use Rattle.frame_bits.proofs.FrameBits.{length-frame-bits}
use Rattle.frame_sync.proofs.SyncTables.{length-sync-bits}
use Rattle.frame_sync.proofs.SyncRight.{sync-as-read}
use Rattle.frame.proofs.Reading.{row_gives}

pub length-modulated : (n : FS) (row : List ℕ) (dc : ℕ) → length (bits (modulated n (frame_pairs row dc)).groups) ≡ 1902
length-modulated n row dc = size-of-a-frame (last_bit false (sync_id n)) (frame_bits row dc) (length-frame-bits row dc)

pub length-frame : (hash : Bool) (n : FS) (row : List ℕ) (dc : ℕ) → length (frame hash n row dc) ≡ 1932
unfolding frame
length-frame hash n row dc =
    omega (
      arith,
      ap length (bits-append (sync hash n) (modulated n (frame_pairs row dc)).groups),
      length-append (bits (sync hash n)) (bits (modulated n (frame_pairs row dc)).groups),
      length-sync-bits hash n,
      length-modulated n row dc,
    )

-- ---- the parts of a frame, in itself and among other bits

module _ (hash : Bool) (n : FS) (row : List ℕ) (dc : ℕ) where
  abbrev body : List ℕ
  body = bits (modulated n (frame_pairs row dc)).groups

  pub frame-parts : frame hash n row dc ≡ bits (sync hash n) ++ body
  unfolding frame
  frame-parts = bits-append (sync hash n) (modulated n (frame_pairs row dc)).groups

  pub frame-sync : take 30 (frame hash n row dc) ≡ bits (sync hash n)
  frame-sync = ap (take 30) frame-parts ∙ take_at (bits (sync hash n)) body 30 (length-sync-bits hash n)

module _ (n : FS) (b : List ℕ) (at : ℕ) (row : List ℕ) (dc : ℕ) where
  -- where sync n is right and row and dc word give what stands behind it, there stands their frame
  pub frame-as-read : {next : Bool} → sync_right n b at ≡ true → RowGives n row dc (take 1902 (drop (at + 30) b)) next
      → take 1932 (drop at b) ≡ frame (hash_at b at) n row dc
  frame-as-read right given =
      take-add 30 1902 (drop at b)
      ∙ ap₂ ◌++◌ (sync-as-read n b at right) (ap (take 1902) (drop-drop 30 at b) ∙ sym given.bits_are)
      ∙ sym (frame-parts (hash_at b at) n row dc)

  -- and where a frame stands, its sync is right and its row and dc word give what stands behind it
  module _ (hash : Bool) (e : take 1932 (drop at b) ≡ frame hash n row dc) where
    sync-there : take 30 (drop at b) ≡ bits (sync hash n)
    sync-there = sym (take-take 30 1932 (drop at b) (omega arith)) ∙ ap (take 30) e ∙ frame-sync hash n row dc

    body-there : take 1902 (drop (at + 30) b) ≡ body hash n row dc
    body-there =
        ap (take 1902) (sym (drop-drop 30 at b))
        ∙ append_cancel_left (bits (sync hash n)) (take 1902 (drop 30 (drop at b))) (body hash n row dc)
        (ap (λ (l : List ℕ). l ++ take 1902 (drop 30 (drop at b))) (sym sync-there) ∙ sym (take-add 30 1902 (drop at b)) ∙ e ∙ frame-parts hash n row dc)

    pub read-body : length row ≡ 155 → Bytes row → dc < 2 ^ 28 → RowGives n row dc (take 1902 (drop (at + 30) b)) (next_hash n row dc)
    read-body size bytes small = rw body-there (row_gives n row dc size bytes small)
