-- What writing a frame leaves in a slice: `before` at entry and `after` at exit.
use Rattle.std.specs.Prelude.{Bool, List, ◌≡◌, ℕ}
use Rattle.std.proofs.lemmas.List.Edits.{sets}
use Rattle.bits.specs.Bits.{bits_of}
use Rattle.modulation.specs.Sync.{FS}
use Rattle.frame.specs.Frame.{frame, next_hash}

-- the frame behind sync n stands from bit `at` on, and all else is as it was; the answer is # of the next sync
pub record FrameWritten (n : FS) (hash : Bool) (row : List ℕ) (dc : ℕ) (before : List ℕ) (at : ℕ) (after : List ℕ) (answer : Bool) : Type 0 where
  pub bits_are : bits_of after ≡ sets (bits_of before) at (frame hash n row dc)
  pub next-is : answer ≡ next_hash n row dc
