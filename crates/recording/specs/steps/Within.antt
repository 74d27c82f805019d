-- Where a recording lies in a slice of bytes.
use Rattle.std.specs.Prelude.{List, ℕ, ◌+◌, ◌*◌, ◌<◌, ◌≤◌, length}
use Rattle.sizes.specs.Sizes.{recording_size}

-- a recording from bit `at` on lies inside the slice
pub record Within (image : List ℕ) (at : ℕ) : Type 0 where
  pub enough : at + (recording_size + 30) ≤ 8 * length image
  pub positions : at + (recording_size + 30) < 18446744073709551616
