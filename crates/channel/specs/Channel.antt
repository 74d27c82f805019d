-- 13.18, 13.17: NRZI. A modulation ONE is a transition of the recorded signal. 3.7: the digital-sum value. Document 02, W-204: level and sum.
use mathlib.Core.Path.{◌≡◌}
use mathlib.Core.Bool.{Bool, true, false, not, cond}
use mathlib.Core.List.{List, [], ◌∷◌}
use Prim.Native.Nat.{ℕ}
use lib.Dec.{eqb}
use lib.IntN.{ℤ, pos, negsuc, ◌+ℤ◌}

-- ---- levels; true is a channel ONE

-- a modulation ONE changes the level, a ZERO leaves it
abbrev pub changed : Bool → ℕ → Bool
changed level b = cond (eqb b 1) (not level) level

-- the channel bits of modulation bits, from the level before them: a ONE changes the level before its own channel bit
unfoldable pub channel_bits : Bool → List ℕ → List Bool
channel_bits level [] = []
channel_bits level (b ∷ bs) = changed level b ∷ channel_bits (changed level b) bs

-- the last of channel bits, or the level before them where there is none
unfoldable pub last_of : Bool → List Bool → Bool
last_of level [] = level
last_of level (c ∷ cs) = last_of c cs

-- the level after modulation bits
abbrev pub level_after : Bool → List ℕ → Bool
level_after level b = last_of level (channel_bits level b)

-- ---- sums

-- +1 for a channel ONE, -1 for a ZERO
abbrev pub decimal_value : Bool → ℤ
decimal_value true = pos 1
decimal_value false = negsuc 0

-- the digital-sum value of channel bits
unfoldable pub digital_sum : List Bool → ℤ
digital_sum [] = pos 0
digital_sum (c ∷ cs) = decimal_value c +ℤ digital_sum cs

-- that of the channel bits of modulation bits, from the level before them
abbrev pub sum_after : Bool → List ℕ → ℤ
sum_after level b = digital_sum (channel_bits level b)

-- ---- level and sum, both, after modulation bits, from those before them

pub record Carried (level : Bool) (sum : ℤ) (b : List ℕ) (next : Bool) (total : ℤ) : Type 0 where
  pub level-is : next ≡ level_after level b
  pub sum_is : total ≡ sum +ℤ sum_after level b
