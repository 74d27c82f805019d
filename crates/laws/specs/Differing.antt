-- Where two lists differ, and in how many places.
use Rattle.std.specs.Prelude.{Bool, cond, not, List, [], ◌∷◌, ℕ, suc, eqb, get_or}

-- index k holds another number
unfoldable pub differs_at : List ℕ → List ℕ → ℕ → Bool
differs_at a b k = not (eqb (get_or a k 0) (get_or b k 0))

-- in how many places two lists differ, their Hamming distance. It is meant for lists of one length: of a longer one the end is not compared.
unfoldable pub differing : List ℕ → List ℕ → ℕ
differing [] m = 0
differing (x ∷ l) [] = 0
differing (x ∷ l) (y ∷ m) = cond (eqb x y) (differing l m) (suc (differing l m))
