-- The error-detection code is the remainder of I(x), and its four bytes are the only ones that make the bits a multiple of G(x). Assumes nothing.
use mathlib.Core.Path.{◌≡◌, refl, sym, ap, subst, ◌∙◌}
use mathlib.Core.List.{List, ◌++◌}
use Prim.Native.Nat.{ℕ, ◌+◌, ◌*◌, ◌^◌, ◌<◌}
use native.Mathlib.Nat.{zero-mul}
use native.Mathlib.Omega.{arith}
use lib.Bits.{bit_xor, xor_self, xor_shifted}
use lib.ListN.{length}
use Rattle.laws.specs.Bytes.{Bytes}
use Rattle.bits.specs.Bits.{bits_of, number}
use Rattle.bits.proofs.Bits.{bits-bits}
use Rattle.edc.specs.Edc.{MultipleOfG, remainder_by_g, edc_of, edc_bytes}
use Rattle.big_endian.specs.Words.{four_bytes}
use Rattle.big_endian.proofs.Words.{number-of-four, bytes-four}
use Rattle.laws.proofs.Xor.{xor-equal}
use Rattle.edc.proofs.Division.{Leaves, leaves-self, leaves-add, leaves-one, leaves-zero, multiple-leaves, leaves-bits}
use Rattle.bits.proofs.Concat.{number-bytes, number-low, bytes-equal}

-- ---- the remainder

-- I(x) is x^32 times the bytes
pub edc-leaves : (l : List ℕ) → Leaves (number (bits_of l) * 2 ^ 32) (edc_of l)
unfolding edc_of
edc-leaves l =
    let bits : List ℕ = bits_of (l ++ four_bytes 0) in
    let whole : 0 * 2 ^ length bits + number bits ≡ number (bits_of l) * 2 ^ 32 = omega (arith, zero-mul (2 ^ length bits), number-bytes l (four_bytes 0), number-of-four 0 (omega arith)) in
    subst (λ (n : ℕ). Leaves n (remainder_by_g 0 bits)) whole (leaves-bits bits (bits-bits (l ++ four_bytes 0)) (leaves-self 0 (omega arith)))

pub edc-lt : (l : List ℕ) → edc_of l < 2 ^ 32
edc-lt l = (edc-leaves l).low

-- ---- its bytes

pub number-edc : (l : List ℕ) → number (bits_of (edc_bytes l)) ≡ edc_of l
unfolding edc_bytes
number-edc l = number-of-four (edc_of l) (edc-lt l)

pub length-edc : (l : List ℕ) → length (edc_bytes l) ≡ 4
unfolding edc_bytes
length-edc l = refl

pub bytes-edc : (l : List ℕ) → Bytes (edc_bytes l)
unfolding edc_bytes
bytes-edc l = bytes-four (edc_of l)

-- ---- four bytes behind others

module _ (l e : List ℕ) (size : length e ≡ 4) where
  four-lt : number (bits_of e) < 2 ^ 32
  four-lt = number-low e 4 size

  number_behind : number (bits_of (l ++ e)) ≡ bit_xor (number (bits_of l) * 2 ^ 32) (number (bits_of e))
  number_behind =
      number-bytes l e
      ∙ ap (λ (n : ℕ). number (bits_of l) * 2 ^ (8 * n) + number (bits_of e)) size
      ∙ sym (xor_shifted (number (bits_of l)) 32 (number (bits_of e)) four-lt)

  completed : Leaves (number (bits_of (l ++ e))) (bit_xor (edc_of l) (number (bits_of e)))
  completed =
      subst (λ (n : ℕ). Leaves n (bit_xor (edc_of l) (number (bits_of e)))) (sym number_behind) (leaves-add (edc-leaves l) (leaves-self (number (bits_of e)) four-lt))

  -- they make a multiple of G(x) where they make the code, and only there
  pub code-completes : number (bits_of e) ≡ edc_of l → MultipleOfG (number (bits_of (l ++ e)))
  code-completes h =
      leaves-zero (subst (λ (r : ℕ). Leaves (number (bits_of (l ++ e))) r) (ap (bit_xor (edc_of l)) h ∙ xor_self (edc_of l)) completed)

  pub complete-is-code : MultipleOfG (number (bits_of (l ++ e))) → number (bits_of e) ≡ edc_of l
  complete-is-code m = sym (xor-equal (edc_of l) (number (bits_of e)) (leaves-one completed (multiple-leaves m)))

-- the bits of bytes and their error-detection code are a multiple of G(x)
pub edc-completes : (l : List ℕ) → MultipleOfG (number (bits_of (l ++ edc_bytes l)))
edc-completes l = code-completes l (edc_bytes l) (length-edc l) (number-edc l)

-- no other four bytes make them one
pub edc-only : (l e : List ℕ) → length e ≡ 4 → Bytes e → MultipleOfG (number (bits_of (l ++ e))) → e ≡ edc_bytes l
edc-only l e size bytes m =
    bytes-equal e (edc_bytes l) bytes (bytes-edc l) (size ∙ sym (length-edc l)) (complete-is-code l e size m ∙ sym (number-edc l))
