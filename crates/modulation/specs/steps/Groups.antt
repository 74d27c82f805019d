-- Groups of three modulation bits in the bits of bytes.
use Rattle.std.specs.Prelude.{Bool, List, [], ◌∷◌, ℕ, zero, suc, ◌+◌, ◌*◌, ◌<◌, ◌≤◌, length, get_or}
use Rattle.modulation.specs.Modulation.{Three, Modulated}
use Rattle.modulation.specs.Bits.{three}

-- n groups from bit p on lie inside the bytes l, at positions of 64 bits
pub record Inside (l : List ℕ) (p n : ℕ) : Type 0 where
  pub enough : p + 3 * n ≤ 8 * length l
  pub positions : p + 3 * n < 18446744073709551616

-- n groups of the bits b, from bit p on
unfoldable pub groups_at : List ℕ → ℕ → ℕ → List Three
groups_at b p zero = []
groups_at b p (suc n) = three (get_or b p 0) (get_or b (p + 1) 0) (get_or b (p + 2) 0) ∷ groups_at b (p + 3) n

-- these groups as a frame that ends so
abbrev pub frame_at : List ℕ → ℕ → ℕ → Bool → Modulated
frame_at b p n hash = record { groups = groups_at b p n; terminated = hash }
