-- The row of a frame in a slice, five bytes at a time.
use Rattle.std.specs.Prelude.{List, ◌≡◌, ℕ, ◌+◌, ◌*◌, ◌-◌, ◌/◌, ◌%◌, ◌^◌, ◌<◌, get_or}

-- the bytes of a row from 5 m on, as a number
pub record FiveBytes (row : List ℕ) (m v : ℕ) : Type 0 where
  pub each : (t : ℕ) → t < 5 → v / 2 ^ (32 - 8 * t) % 256 ≡ get_or row (5 * m + t) 0
