-- Numbers as they are printed: decimal without zeros in front, and PSNs as eight hexadecimal digits.
use Rattle.std.specs.Prelude.{cond, List, [], ◌∷◌, ◌++◌, ℕ, zero, suc, ◌+◌, ◌/◌, ◌%◌, ltb}
use Rattle.io.specs.Digits.{last_digits}

-- at most k digits: the digit of a number below 10; of another those of its tens, then the last
unfoldable pub decimal_to : ℕ → ℕ → List ℕ
decimal_to zero n = []
decimal_to (suc k) n = cond (ltb n 10) ((48 + n) ∷ []) (decimal_to k (n / 10) ++ ((48 + n % 10) ∷ []))

-- of a number below 10^20
abbrev pub decimal : ℕ → List ℕ
decimal n = decimal_to 20 n

-- eight digits, the highest first: 0 to 9, then a to f
unfoldable pub hexadecimal : ℕ → List ℕ
hexadecimal n = last_digits 16 8 n
