-- Two lists combined, number by number, by exclusive or. It is meant for lists of one length; a longer one is cut.
use Rattle.std.specs.Prelude.{List, [], ◌∷◌, ℕ}
use Rattle.std.specs.Int.Bits.{bit_xor}

unfoldable pub combined : List ℕ → List ℕ → List ℕ
combined [] m = []
combined (x ∷ l) [] = []
combined (x ∷ l) (y ∷ m) = bit_xor x y ∷ combined l m
