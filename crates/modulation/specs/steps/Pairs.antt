-- Pairs of data bits by their numbers, 0 to 3.
use Rattle.std.specs.Prelude.{List, [], ◌∷◌, ◌++◌, ℕ, zero, suc, ◌/◌, ◌%◌}
use Rattle.modulation.specs.Modulation.{Two, d00, d01, d10, d11}

-- the pair of a number, 11 from 3 on
abbrev pub two_of : ℕ → Two
two_of zero = d00
two_of (suc zero) = d01
two_of (suc (suc zero)) = d10
two_of (suc (suc (suc x))) = d11

-- ---- the pairs of four and of eight bits, the highest first

abbrev pub nibble_pairs : ℕ → List Two
nibble_pairs x = two_of (x / 4) ∷ two_of (x % 4) ∷ []

abbrev pub byte_pairs : ℕ → List Two
byte_pairs x = nibble_pairs (x / 16) ++ nibble_pairs (x % 16)
