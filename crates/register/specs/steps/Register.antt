-- What bytes leave in the register, and the register itself.
use Rattle.std.specs.Prelude.{◌≡◌, List, ◌∷◌, ℕ, zero, suc, ◌+◌, ◌*◌, ◌-◌, ◌<◌, ◌≤◌, length, get_or, drop}
use Rattle.laws.specs.Tabulate.{tabulate}
use Rattle.galois.specs.Field.{sum}
use Rattle.column.specs.Column.{generator, parity}

-- what byte b leaves in the register when k zeros follow it
unfoldable pub leaves : ℕ → ℕ → List ℕ
leaves k b = parity 32 (b ∷ tabulate k (λ _. 0))

-- the rows for a byte with nothing behind it
pub record FirstTable (table : List ℕ) : Type 0 where
  pub at : (b j : ℕ) → b < 256 → j < 32 → get_or table (32 * b + j) 0 ≡ get_or (leaves 0 b) j 0

-- ---- the step

-- the generator with 32 roots, without its first coefficient
abbrev pub divisor : List ℕ
divisor = drop 1 (generator 32)

-- 32 bytes and eight zeros
pub record Padded (l : List ℕ) : Type 0 where
  pub size : length l ≡ 40
  pub zeros : (k : ℕ) → 32 ≤ k → get_or l k 0 ≡ 0

-- byte k of the register with the one that goes in
unfoldable pub front : List ℕ → List ℕ → ℕ → ℕ → ℕ
front was message at k = sum (get_or message (at + k) 0) (get_or was k 0)

-- byte j of what the last n of eight bytes leave, added to a byte
unfoldable pub leaves_added : List ℕ → ℕ → ℕ → ℕ → ℕ
leaves_added eight j byte zero = byte
leaves_added eight j byte (suc n) = sum (leaves_added eight j byte n) (get_or (leaves n (get_or eight (7 - n) 0)) j 0)
