-- The gaps of a frame, counted where it was written. Assumes nothing.
use mathlib.Core.Bool.{Bool}
use mathlib.Core.List.{List}
use mathlib.Core.Path.{◌≡◌, ap, ◌∙◌}
use Prim.Native.Nat.{ℕ, ◌+◌}
use native.Mathlib.Omega.{arith}
use lib.ListN.{length, take, drop}
use lib.Seq.{sets-eq, take_at}
use Rattle.bits.specs.Bits.{Bits, bits_of}
use Rattle.bits.proofs.Bits.{length-bits}
use Rattle.modulation.specs.Sync.{FS}
use Rattle.modulation.proofs.Fronts.{bits-groups}
use Rattle.frame.specs.Frame.{frame, frame_groups}
use Rattle.frame_writer.specs.steps.Written.{FrameWritten}
use Rattle.frame.proofs.Frame.{length-frame}
use Rattle.gaps.specs.Gaps.{gap_counts}

pub bits-frame : (hash : Bool) (n : FS) (row : List ℕ) (dc : ℕ) → Bits (frame hash n row dc)
unfolding frame
bits-frame hash n row dc = bits-groups (frame_groups hash n row dc)

-- the frame stands in front of a slice of 242 bytes
pub frame-counted : {hash : Bool} {n : FS} {row : List ℕ} {dc : ℕ} {before after c : List ℕ} {answer : Bool} → length before ≡ 242 → FrameWritten n hash row dc before 0 after answer
    → c ≡ gap_counts (take 1932 (bits_of after)) → c ≡ gap_counts (frame hash n row dc)
frame-counted {hash} {n} {row} {dc} {before} {after} {c} s w e =
    let f = frame hash n row dc in
    let size = length-frame hash n row dc in
    e ∙ ap (λ (l : List ℕ). gap_counts (take 1932 l)) (w.bits_are ∙ sets-eq f (bits_of before) 0 (omega (arith, size, length-bits before)))
    ∙ ap gap_counts (take_at f (drop (0 + length f) (bits_of before)) 1932 size)
