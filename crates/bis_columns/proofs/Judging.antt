-- The columns judged. Assumes nothing.
use mathlib.Core.Path.{◌≡◌}
use mathlib.Core.Bool.{Bool, cond, not}
use mathlib.Core.List.{List, []}
use Prim.Native.Nat.{ℕ, ◌<◌}
use lib.Dec.{ltb}
use lib.ListN.{length}
use Rattle.std.specs.Prelude.{Option, Some, None, SomeIff}
use Rattle.std.specs.List.{position_or_len}
use Rattle.laws.specs.First.{first}
use Rattle.laws.proofs.Found.{position-first, some-below}
use Rattle.column.specs.Column.{has_roots}
use Rattle.bis.specs.Reading.{wrong_column, first_wrong_column}

abbrev pub is_wrong : List ℕ → Bool
is_wrong column = not (has_roots 32 column)

-- r is the position of the first column that is wrong
pub columns-judged : (block : List (List ℕ)) {r : Option ℕ} → length block ≡ 24
    → r ≡ cond (ltb (position_or_len is_wrong block) (length block)) (Some (position_or_len is_wrong block)) None
    → SomeIff r (first_wrong_column block < 24) (first_wrong_column block)
unfolding first_wrong_column wrong_column
columns-judged block size found =
    some-below (first 24 (wrong_column block)) 24
    (rw (position-first is_wrong [] block, size) at found)
