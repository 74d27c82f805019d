-- Several pieces in one text, with a bar, `|`, between each and the next; a star, `*`, is a number.
use Rattle.std.specs.Prelude.{cond, List, [], ◌∷◌, ◌++◌, ◌≡◌, ℕ, zero, suc, ◌≤◌, eqb, length, drop}
use Rattle.texts.specs.Numbers.{decimal}

-- a byte of a piece
abbrev pub shown : ℕ → ℕ → List ℕ
shown n b = cond (eqb b 42) (decimal n) (b ∷ [])

-- piece k, with the number n
unfoldable pub piece : ℕ → ℕ → List ℕ → List ℕ
piece zero n [] = []
piece zero n (b ∷ l) = cond (eqb b 124) [] (shown n b ++ piece zero n l)
piece (suc k) n [] = []
piece (suc k) n (b ∷ l) = piece (cond (eqb b 124) k (suc k)) n l

-- from i on piece k stands behind `bars` bars
pub record PieceBehind (l : List ℕ) (k i bars : ℕ) : Type 0 where
  pub within : i ≤ length l
  pub rest : (n : ℕ) → piece bars n (drop i l) ≡ piece k n l
