-- Document 02, W-207: what is promised of a column's parity. The number is 0 for 1 to 223 data bytes and a parity slice of 32, and for nothing else,
-- and then the bytes left are the only ones that give the column its roots (column, specs/Column: ParityExactly).
use Rattle.std.specs.Prelude.{◌≡◌, ◌↔◌, List, ℕ, ◌<◌, ◌≤◌, length}
use Rattle.column.specs.Column.{ParityExactly}

-- the lengths of data and parity slice
pub record RightColumn (n size : ℕ) : Type 0 where
  pub some : 0 < n
  pub most : n ≤ 223
  pub room : size ≡ 32

-- the number returned for a message; the parity slice was `before`, and is `after`
pub record CompletesExactly (message before : List ℕ) (number : ℕ) (after : List ℕ) : Type 0 where
  pub zero-iff : (number ≡ 0) ↔ RightColumn (length message) (length before)
  pub only : number ≡ 0 → ParityExactly 32 message after
  pub refused : (number ≡ 0 → ⊥) → (number ≡ 22) × (after ≡ before)
