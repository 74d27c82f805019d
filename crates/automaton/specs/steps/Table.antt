-- Two and three groups at once: a table by state and groups. A number x stands for a state and the number of the data bits so far: 32 times
-- the latter, and the state.
use Rattle.std.specs.Prelude.{cond, List, [], ◌∷◌, ◌≡◌, ℕ, ◌+◌, ◌*◌, ◌-◌, ◌/◌, ◌%◌, ◌<◌, ltb, length, get_or}
use Rattle.laws.specs.Tabulate.{tabulate}
use Rattle.modulation.specs.Modulation.{Three}
use Rattle.modulation.specs.Bits.{three}
use Rattle.automaton.specs.Automaton.{transitions, state_after, number_after}

abbrev pub group_numbered : ℕ → Three
group_numbered g = three (g / 4 % 2) (g / 2 % 2) (g % 2)

abbrev pub two_groups : ℕ → List Three
two_groups v = group_numbered (v / 8) ∷ group_numbered (v % 8) ∷ []

abbrev pub three_groups : ℕ → List Three
three_groups v = group_numbered (v / 64) ∷ group_numbered (v / 8 % 8) ∷ group_numbered (v % 8) ∷ []

-- from state s, with no data bits before
unfoldable pub read_from : ℕ → List Three → ℕ
read_from s gs = 32 * number_after s 0 gs + state_after s gs

-- such a number with group g read
abbrev pub more : ℕ → ℕ → ℕ
more a g = a / 32 * 128 + get_or transitions (8 * (a % 32) + g) 0

-- two groups v from state s stand at 18 v + s, and behind these three groups likewise
unfoldable pub table_entry : ℕ → ℕ
table_entry k = cond (ltb k 1152) (read_from (k % 18) (two_groups (k / 18))) (read_from ((k - 1152) % 18) (three_groups ((k - 1152) / 18)))

unfoldable pub table : List ℕ
table = tabulate 10368 table_entry

-- the part for two groups stands in l
pub record Twos (l : List ℕ) : Type 0 where
  pub size : length l ≡ 10368
  pub each : (k : ℕ) → k < 1152 → get_or l k 0 ≡ table_entry k

-- r is x with the groups gs read
pub record After (gs : List Three) (x r : ℕ) : Type 0 where
  pub number : r / 32 ≡ number_after (x % 32) (x / 32) gs
  pub state : r % 32 ≡ state_after (x % 32) gs
  pub small : r % 32 < 18

-- 2 to the power of the bits pending in a state
abbrev pub limit : ℕ → ℕ
limit s = get_or (1 ∷ 1 ∷ 1 ∷ 1 ∷ 2 ∷ 2 ∷ 1 ∷ 4 ∷ 2 ∷ 8 ∷ 8 ∷ 4 ∷ 2 ∷ 8 ∷ 2 ∷ 32 ∷ 16 ∷ 1 ∷ []) s 1
