-- What writing a sync leaves in a slice: `before` at entry and `after` at exit.
use Rattle.std.specs.Prelude.{Bool, List, ◌≡◌, ℕ}
use Rattle.std.proofs.lemmas.List.Edits.{sets}
use Rattle.bits.specs.Bits.{bits_of}
use Rattle.modulation.specs.Bits.{bits}
use Rattle.modulation.specs.Sync.{FS, sync}

-- sync n stands from bit `at` on, and all else is as it was
pub record SyncWritten (n : FS) (hash : Bool) (before : List ℕ) (at : ℕ) (after : List ℕ) : Type 0 where
  pub bits_are : bits_of after ≡ sets (bits_of before) at (bits (sync hash n))
