-- File names: `-`, and the name under which a result is written before it is whole.
use Rattle.std.specs.Prelude.{Bool, false, cond, List, [], ◌∷◌, ◌++◌, ℕ, ◌+◌, eqb, leb, length, get_or, take, drop}

abbrev pub is_dash : List ℕ → Bool
is_dash name = cond (eqb (length name) 1) (eqb (get_or name 0 0) 45) false

-- `.part`
abbrev pub part_ending : List ℕ
part_ending = 46 ∷ 112 ∷ 97 ∷ 114 ∷ 116 ∷ []

-- the ending behind the first n bytes of a buffer, which stays as it was where there is no room
unfoldable pub part_added : List ℕ → ℕ → List ℕ
part_added buffer n = cond (leb (n + 5) (length buffer)) (take n buffer ++ part_ending ++ drop (n + 5) buffer) buffer
