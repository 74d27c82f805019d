-- Scrambling (13.4): the bytes of a shift register that is preset from the PSN.
use Rattle.std.specs.Prelude.{List, ℕ, zero, suc, ◌+◌, ◌*◌, ◌/◌, ◌%◌, ◌^◌, length, get_or}
use Rattle.std.specs.Int.Bits.{bit_xor}
use Rattle.laws.specs.Tabulate.{tabulate}

-- bit s_n of the register s
abbrev pub stage : ℕ → ℕ → ℕ
stage s n = s / 2 ^ n % 2

-- one shift: s_n moves to s_n+1, and s_0 becomes s_15 + s_14 + s_12 + s_3, by exclusive or
unfoldable pub shift : ℕ → ℕ
shift s = s * 2 % 2 ^ 16 + bit_xor (stage s 15) (bit_xor (stage s 14) (bit_xor (stage s 12) (stage s 3)))

unfoldable pub shifts : ℕ → ℕ → ℕ
shifts zero s = s
shifts (suc n) s = shift (shifts n s)

-- s_15 is ONE, s_14 to s_0 are PS19 to PS5 of the PSN
abbrev pub preset : ℕ → ℕ
preset psn = 2 ^ 15 + psn / 2 ^ 5 % 2 ^ 15

-- the register, preset to s, when scrambling byte k is taken
unfoldable pub register : ℕ → ℕ → ℕ
register s zero = s
register s (suc k) = shifts 8 (register s k)

-- s_7 to s_0
unfoldable pub scrambling_byte : ℕ → ℕ → ℕ
scrambling_byte psn k = register (preset psn) k % 2 ^ 8

-- the scrambling bytes of each data frame of a cluster
unfoldable pub scrambling_of : ℕ → List ℕ
scrambling_of psn = tabulate 2052 (scrambling_byte psn)

-- the bytes of a data frame, each with its scrambling byte by exclusive or
unfoldable pub scrambled : List ℕ → List ℕ → List ℕ
scrambled stream frame = tabulate (length frame) (λ k. bit_xor (get_or frame k 0) (get_or stream k 0))
