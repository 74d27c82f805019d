-- 13.7: the field of 256 elements. An element is a byte, bit i the coefficient of α^i, where α is a root of x^8 + x^4 + x^3 + x^2 + 1 (formula 29).
use Rattle.std.specs.Prelude.{ℕ, zero, suc, ◌*◌, ◌/◌, ◌%◌}
use Rattle.std.specs.Int.Bits.{bit_xor}

abbrev pub α : ℕ
α = 0b00000010

-- α^8 = α^4 + α^3 + α^2 + 1
abbrev pub α⁸ : ℕ
α⁸ = 0b00011101

-- the sum of two elements, bit by bit
unfoldable pub sum : ℕ → ℕ → ℕ
sum a b = bit_xor a b

-- α times b: the bits move up by one place, and for bit 7, if it is set, comes α^8
unfoldable pub timesα : ℕ → ℕ
timesα b = sum (b * 2 % 256) (b / 128 % 2 * α⁸)

-- the polynomial of the n low bits of a, by Horner's rule, times b
unfoldable pub times : ℕ → ℕ → ℕ → ℕ
times zero a b = 0
times (suc n) a b = sum (timesα (times n (a / 2) b)) (a % 2 * b)

-- the product of two elements; of a number above 255 its low byte
unfoldable pub product : ℕ → ℕ → ℕ
product a b = times 8 (a % 256) (b % 256)

-- a to the power k
unfoldable pub power : ℕ → ℕ → ℕ
power a zero = 1
power a (suc k) = product a (power a k)

-- the element that gives 1 with a; of 0 it is 0
unfoldable pub inverse : ℕ → ℕ
inverse a = power a 254
