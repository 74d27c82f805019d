-- Channel bits, levels and sums of few bits, computed. Assumes nothing.
use mathlib.Core.Path.{◌≡◌, refl}
use mathlib.Core.Bool.{true, false}
use mathlib.Core.List.{List, [], ◌∷◌}
use Prim.Native.Nat.{ℕ}
use lib.IntN.{pos, negsuc}
use Rattle.channel.specs.Channel.{channel_bits, last_of, level_after, digital_sum, sum_after}

abbrev modulation : List ℕ
modulation = 0 ∷ 1 ∷ 0 ∷ 0 ∷ 1 ∷ 0 ∷ 1 ∷ []

-- 0100101 from level ZERO: 0111001, level ONE, sum 4 - 3
pub shown : channel_bits false modulation ≡ false ∷ true ∷ true ∷ true ∷ false ∷ false ∷ true ∷ []
unfolding channel_bits
shown = refl

pub shown-level : level_after false modulation ≡ true
unfolding channel_bits last_of
shown-level = refl

pub shown-sum : sum_after false modulation ≡ pos 1
unfolding channel_bits digital_sum
shown-sum = refl

-- from level ONE: 1000110, level ZERO, sum 3 - 4
pub shown-from-one : sum_after true modulation ≡ negsuc 0
unfolding channel_bits digital_sum
shown-from-one = refl
