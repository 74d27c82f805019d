-- A frame's 1,268 data bits in 28 words of 46 bits: of the first word the 20 highest do not count, and the last bit of each word is a
-- dc-control bit. A word more stands behind them, so that each word has a next.
use Rattle.std.specs.Prelude.{Bool, List, ◌≡◌, ℕ, ◌+◌, ◌-◌, ◌/◌, ◌%◌, ◌^◌, ◌<◌, length, get_or, Option, IfSome, IfNone}
use Rattle.laws.specs.Tabulate.{tabulate}
use Rattle.modulation.specs.Modulation.{Two}
use Rattle.modulation.specs.Bits.{pairs, Gives}

unfoldable pub bits_in : List ℕ → List ℕ
bits_in ws = tabulate 1268 (λ j. get_or ws ((j + 20) / 46) 0 / 2 ^ (45 - (j + 20) % 46) % 2)

-- 29 numbers of 46 bits; 70368744177664 is 2^46
pub record Words (ws : List ℕ) : Type 0 where
  pub size : length ws ≡ 29
  pub below : (i : ℕ) → get_or ws i 0 < 70368744177664

-- what is read in modulation bits m and # of the next sync: words whose data bits give them, or that no data bits do, however many
pub record WordsRead (before : Bool) (m : List ℕ) (hash : Bool) (answer : Option (List ℕ)) : Type 0 where
  pub words : IfSome answer Words
  pub found : IfSome answer (λ ws. Gives before (pairs (bits_in ws)) m hash)
  pub none : IfNone answer ((ds : List Two) → Gives before ds m hash → ⊥)
