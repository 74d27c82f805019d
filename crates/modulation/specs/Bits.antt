-- Lists of bits, numbers 0 and 1, as pairs of data bits and groups of modulation bits.
use Rattle.std.specs.Prelude.{Bool, List, [], ◌∷◌, ◌++◌, ◌≡◌, ℕ, zero, suc, ◌+◌, ◌/◌, ◌%◌}
use Rattle.bits.specs.Bits.{three_of}
use Rattle.modulation.specs.Modulation.{Two, d00, d01, d10, d11, two_number, Three, m000, m001, m010, m011, m100, m101, m110, m111, three_number, modulate}

abbrev pub two : ℕ → ℕ → Two
two zero zero = d00
two zero (suc y) = d01
two (suc x) zero = d10
two (suc x) (suc y) = d11

-- data bits two by two; a last one without a second is left out
abbrev pub pairs : List ℕ → List Two
pairs [] = []
pairs (x ∷ []) = []
pairs (x ∷ y ∷ l) = two x y ∷ pairs l

abbrev pub data_bits : List Two → List ℕ
data_bits [] = []
data_bits (d ∷ ds) = two_number d / 2 ∷ two_number d % 2 ∷ data_bits ds

abbrev pub three : ℕ → ℕ → ℕ → Three
three zero zero zero = m000
three zero zero (suc z) = m001
three zero (suc y) zero = m010
three zero (suc y) (suc z) = m011
three (suc x) zero zero = m100
three (suc x) zero (suc z) = m101
three (suc x) (suc y) zero = m110
three (suc x) (suc y) (suc z) = m111

-- modulation bits three by three; a last one or two are left out
abbrev pub groups : List ℕ → List Three
groups [] = []
groups (x ∷ []) = []
groups (x ∷ y ∷ []) = []
groups (x ∷ y ∷ z ∷ l) = three x y z ∷ groups l

abbrev pub bits : List Three → List ℕ
bits [] = []
bits (m ∷ ms) = three_of (three_number m) ++ bits ms

-- how many ones there are
abbrev pub ones : List ℕ → ℕ
ones [] = 0
ones (x ∷ l) = x + ones l

-- the data bits ds, however many, give the modulation bits l behind the bit before, and # of the next sync. Answer 11 of document 01 is that
-- no 1,268 bits do (frame, BitsGive)
pub record Gives (before : Bool) (ds : List Two) (l : List ℕ) (hash : Bool) : Type 0 where
  pub same_bits : bits (modulate before ds).groups ≡ l
  pub same_end : (modulate before ds).terminated ≡ hash
