-- A window of bits, as the low bits of a number.
use Rattle.std.specs.Prelude.{List, ◌≡◌, ℕ, ◌+◌, ◌-◌, ◌/◌, ◌%◌, ◌^◌, ◌<◌, get_or}

-- the n low bits of v are those of b from p on
pub record LowBits (b : List ℕ) (p n v : ℕ) : Type 0 where
  pub each : (d : ℕ) → d < n → v / 2 ^ (n - 1 - d) % 2 ≡ get_or b (p + d) 0
