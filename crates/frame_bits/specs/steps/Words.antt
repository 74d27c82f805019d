-- The bits of a recording frame (13.15), as numbers.
use Rattle.std.specs.Prelude.{List, ◌≡◌, ℕ, ◌+◌, ◌*◌, ◌-◌, ◌/◌, ◌%◌, ◌^◌, ◌<◌, ◌≤◌, get_or, drop}
use Rattle.bits.specs.Bits.{bits_of}
use Rattle.modulation.specs.Modulation.{Two}
use Rattle.modulation.specs.steps.Pairs.{nibble_pairs}

-- a number of n bits: those of f from p on
pub record Word (n : ℕ) (f : ℕ → ℕ) (p w : ℕ) : Type 0 where
  pub small : w < 2 ^ n
  pub bit : (j : ℕ) → j < n → w / 2 ^ (n - 1 - j) % 2 ≡ f (p + j)

-- the data bits of a row in group i, as a number of 45 bits; in the first group 20 bits do not count
pub record GroupData (row : List ℕ) (i w : ℕ) : Type 0 where
  pub small : w < 2 ^ 45
  pub bit : (t : ℕ) → t < 45 → 20 ≤ 45 * i + t → w / 2 ^ (44 - t) % 2 ≡ get_or (bits_of row) (45 * i + t - 20) 0

-- A place in a frame's words is a number, 64 i + t for bit t of word i: bit 46 i + t of the words, and of the frame 20 less.
abbrev pub bit_of : ℕ → ℕ
bit_of place = 46 * (place / 64) + place % 64

-- sixteen bits of the frame stand from this place on
pub record SixteenFrom (place : ℕ) : Type 0 where
  pub position : place % 64 < 46
  pub some : 20 ≤ bit_of place
  pub most : bit_of place ≤ 1272

-- the next place is sixteen bits on
pub record SixteenOn (place next : ℕ) : Type 0 where
  pub position : next % 64 < 46
  pub on : bit_of next ≡ bit_of place + 16

-- the last two of 634 pairs
pub record LastTwo (ds : List Two) (x : ℕ) : Type 0 where
  pub small : x < 16
  pub pairs-are : drop 632 ds ≡ nibble_pairs x
