-- The rows of the table, as it is filled.
use Rattle.std.specs.Prelude.{◌≡◌, List, ℕ, ◌+◌, ◌/◌, ◌%◌, ◌<◌, ◌≤◌, length, get_or}
use Rattle.register.specs.steps.Register.{leaves}

-- the entry at m
unfoldable pub remainder_at : ℕ → ℕ
remainder_at m = get_or (leaves (m / 8192) (m % 8192 / 32)) (m % 32) 0

-- the 32 entries from `at` on
pub record EntriesFrom (at : ℕ) (row : List ℕ) : Type 0 where
  pub size : 32 ≤ length row
  pub byte : (j : ℕ) → j < 32 → get_or row j 0 ≡ remainder_at (at + j)

-- the entries below m are right
pub record FilledTo (m : ℕ) (table : List ℕ) : Type 0 where
  pub size : length table ≡ 65536
  pub below : (k : ℕ) → k < m → get_or table k 0 ≡ remainder_at k
