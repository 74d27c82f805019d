-- Error-detection code (13.3): EDC(x) = I(x) mod G(x), where G(x) = x^32 + x^31 + x^4 + 1.
-- A polynomial whose coefficients are bits is a number, bit i the coefficient of x^i: the sum of two is their exclusive or, x^k times one is 2^k times it.
use Rattle.std.specs.Prelude.{◌≡◌, cond, List, [], ◌∷◌, ◌++◌, ℕ, ◌+◌, ◌*◌, ◌^◌, leb}
use Rattle.std.specs.Int.Bits.{bit_xor}
use Rattle.bits.specs.Bits.{bits_of}
use Rattle.big_endian.specs.Words.{four_bytes}

-- G(x)
abbrev pub polynomial_g : ℕ
polynomial_g = 2 ^ 32 + 2 ^ 31 + 2 ^ 4 + 1

-- q(x) G(x)
unfoldable pub times_g : ℕ → ℕ
times_g q = bit_xor (q * 2 ^ 32) (bit_xor (q * 2 ^ 31) (bit_xor (q * 2 ^ 4) q))

-- p(x) is a multiple of G(x)
pub record MultipleOfG (p : ℕ) : Type 0 where
  pub quotient : ℕ
  pub product : p ≡ times_g quotient

-- a step of the division by G(x): r is the remainder of the bits before, b the next bit
unfoldable pub divided : ℕ → ℕ → ℕ
divided r b = cond (leb (2 ^ 32) (r * 2 + b)) (bit_xor (r * 2 + b) polynomial_g) (r * 2 + b)

-- the remainder of bits, the first highest, behind bits with the remainder r
unfoldable pub remainder_by_g : ℕ → List ℕ → ℕ
remainder_by_g r [] = r
remainder_by_g r (b ∷ bs) = remainder_by_g (divided r b) bs

-- I(x): the bits of the bytes, with zeros where those of the code will stand
unfoldable pub edc_of : List ℕ → ℕ
edc_of bytes = remainder_by_g 0 (bits_of (bytes ++ four_bytes 0))

unfoldable pub edc_bytes : List ℕ → List ℕ
edc_bytes bytes = four_bytes (edc_of bytes)
