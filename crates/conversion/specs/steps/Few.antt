-- A few pairs of data bits as a number, the row at their front, and what they give.
use Rattle.std.specs.Prelude.{Bool, ◌≡◌, ℕ, ◌*◌, ◌<◌, ◌≤◌, length}
use mathlib.Core.List.{List, tail}
use Rattle.laws.specs.First.{first}
use Rattle.bits.specs.Bits.{number, bits_of_number}
use Rattle.modulation.specs.Modulation.{Two, two_number, row_at, starts, fits, Modulated, modulate_from}
use Rattle.modulation.specs.Bits.{pairs, bits}

-- the n pairs whose data bits are the number p
unfoldable pub few_pairs : ℕ → ℕ → List Two
few_pairs n p = pairs (bits_of_number (2 * n) p)

-- the first row whose pairs stand at the front of ds; 16 where there is none
abbrev pub standing_row : List Two → ℕ
standing_row ds = first 16 (λ k. starts two_number (row_at k).pairs ds)

-- the row of the word at the front of ds
abbrev pub fitting_row : Bool → List Two → ℕ
fitting_row before ds = first 16 (λ k. fits (row_at k) before ds (modulate_from (tail ds)))

-- row k is that of the first word of the n pairs p
pub record Fitting (before : Bool) (n p k : ℕ) : Type 0 where
  pub first-is : k ≡ fitting_row before (few_pairs n p)
  pub below : k < 16
  pub within : length (row_at k).pairs ≤ n

-- the modulation bits as a number, and whether a terminating row ended them
pub record BitsGiven (m : Modulated) (value : ℕ) (terminated : Bool) : Type 0 where
  pub value-is : value ≡ number (bits m.groups)
  pub small : value < 262144
  pub ends : terminated ≡ m.terminated
