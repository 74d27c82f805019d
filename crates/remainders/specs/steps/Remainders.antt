-- The table by which eight bytes of a message go into the register at once.
use Rattle.std.specs.Prelude.{◌≡◌, List, ℕ, ◌+◌, ◌*◌, ◌<◌, get_or}
use Rattle.register.specs.steps.Register.{leaves}

-- entry 8192 k + 32 b + j is byte j of what b leaves when k zeros follow
pub record AreRemainders (table : List ℕ) : Type 0 where
  pub at : (k b j : ℕ) → k < 8 → b < 256 → j < 32 → get_or table (8192 * k + 32 * b + j) 0 ≡ get_or (leaves k b) j 0
