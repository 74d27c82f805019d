-- Columns whose parity is right, those near a column, and how far apart they lie.
use Rattle.std.specs.Prelude.{◌≡◌, List, ℕ, ◌≤◌, length}
use Rattle.laws.specs.Bytes.{Bytes}
use Rattle.laws.specs.Differing.{differing}
use Rattle.column.specs.Column.{Roots}

-- a right column of n bytes: it has its r roots
pub record Right (r n : ℕ) (column : List ℕ) : Type 0 where
  pub size : length column ≡ n
  pub bytes : Bytes column
  pub roots : Roots r column

-- c is a right column, of as many bytes as w, that differs from w in at most m
pub record Near (r m : ℕ) (w c : List ℕ) : Type 0 where
  pub right : Right r (length w) c
  pub few : differing w c ≤ m

-- d is the minimum distance of these columns: two different ones differ in at least d places, and each has another that differs in no more
pub record IsDistance (r n d : ℕ) : Type 0 where
  pub at_least : (c c' : List ℕ) → Right r n c → Right r n c' → (c ≡ c' → ⊥) → d ≤ differing c c'
  pub met : (c : List ℕ) → Right r n c → (c' : List ℕ) × Right r n c' × (c ≡ c' → ⊥) × (differing c c' ≡ d)
