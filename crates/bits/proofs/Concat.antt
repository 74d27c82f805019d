-- The bits of bytes put one behind the other, and the number that they make. Assumes nothing.
use mathlib.Core.Path.{◌≡◌, refl, sym, ap, ap₂, subst, ◌∙◌}
use mathlib.Core.List.{List, [], ◌∷◌, ◌++◌}
use Prim.Native.Nat.{ℕ, ◌+◌, ◌*◌, ◌-◌, ◌/◌, ◌%◌, ◌^◌, ◌<◌}
use native.Mathlib.Nat.{zero-mul, add-mul, mul_assoc, mod-eq_of_lt, mod-lt, zero-lt-suc}
use native.Mathlib.Decide.{dec_lt}
use native.Mathlib.Omega.{arith}
use lib.ListN.{length, get_or, length-append, get_or-append, get_or-eq_default}
use lib.Pow.{pow-add}
use lib.Seq.{ext_get_or, get_or-append-add}
use Rattle.laws.specs.Bytes.{Bytes}
use Rattle.laws.specs.Tabulate.{tabulate}
use Rattle.bits.specs.Bits.{bits_of, bits_of_number, number, packed, Bits}
use Rattle.bits.proofs.Bits.{length-bits, bit_in, bits-bits, bits-then}
use Rattle.bits.proofs.Number.{number-of-bits, bits-of-number, number_lt, length-bits-of, get_d-bits-of}
use Rattle.bits.proofs.Pack.{packed-bits}

pub bits-append : (a b : List ℕ) → bits_of (a ++ b) ≡ bits_of a ++ bits_of b
bits-append a b = ext_get_or 0 (bits_of (a ++ b)) (bits_of a ++ bits_of b) (omega (arith, size, length-append (bits_of a) (bits_of b), length-bits a, length-bits b)) at
  where
    m : ℕ
    m = length a

    size : length (bits_of (a ++ b)) ≡ 8 * (m + length b)
    size = length-bits (a ++ b) ∙ ap (λ (n : ℕ). 8 * n) (length-append a b)

    front : (p : ℕ) → p < 8 * m → get_or (bits_of (a ++ b)) p 0 ≡ get_or (bits_of a ++ bits_of b) p 0
    front p h =
        bit_in (a ++ b) p (p / 8) (p % 8) (omega arith) (omega (arith, length-append a b)) (omega arith)
        ∙ ap (λ (x : ℕ). x / 2 ^ (7 - p % 8) % 2) (get_or-append a b 0 (p / 8) (omega arith))
        ∙ sym (get_or-append (bits_of a) (bits_of b) 0 p (omega (arith, length-bits a)) ∙ bit_in a p (p / 8) (p % 8) (omega arith) (omega arith) (omega arith))

    back : (j : ℕ) → j < 8 * length b → get_or (bits_of (a ++ b)) (length (bits_of a) + j) 0 ≡ get_or (bits_of a ++ bits_of b) (length (bits_of a) + j) 0
    back j h =
        bit_in (a ++ b) (length (bits_of a) + j) (m + j / 8) (j % 8) (omega (arith, length-bits a)) (omega (arith, length-append a b)) (omega arith)
        ∙ ap (λ (x : ℕ). x / 2 ^ (7 - j % 8) % 2) (get_or-append-add a b (j / 8) 0)
        ∙ sym (get_or-append-add (bits_of a) (bits_of b) j 0 ∙ bit_in b j (j / 8) (j % 8) (omega arith) (omega arith) (omega arith))

    at : (p : ℕ) → p < length (bits_of (a ++ b)) → get_or (bits_of (a ++ b)) p 0 ≡ get_or (bits_of a ++ bits_of b) p 0
    at p h =
        elim (dec_lt p (8 * m)) [
          | yes l ↦ front p l
          | no l ↦
              let j : ℕ = p - 8 * m in
              let whole : length (bits_of a) + j ≡ p = omega (arith, length-bits a) in
              subst (λ (q : ℕ). get_or (bits_of (a ++ b)) q 0 ≡ get_or (bits_of a ++ bits_of b) q 0) whole (back j (omega (arith, size)))
        ]

pub number_append : (a b : List ℕ) → number (a ++ b) ≡ number a * 2 ^ length b + number b
unfolding number
number_append [] b = omega (arith, zero-mul (2 ^ length b))
number_append (x ∷ a) b =
    rw (length-append a b, pow-add 2 (length a) (length b), ← mul_assoc x (2 ^ length a) (2 ^ length b), number_append a b, add-mul (x * 2 ^ length a) (number a) (2 ^ length b))
    (omega arith)

-- the number that the bits of bytes make
pub number-bytes : (a b : List ℕ) → number (bits_of (a ++ b)) ≡ number (bits_of a) * 2 ^ (8 * length b) + number (bits_of b)
number-bytes a b = ap number (bits-append a b) ∙ number_append (bits_of a) (bits_of b) ∙ ap (λ (n : ℕ). number (bits_of a) * 2 ^ n + number (bits_of b)) (length-bits b)

pub number-byte : (x : ℕ) → number (bits_of (x ∷ [])) ≡ x % 256
number-byte x = ap number eight ∙ number-of-bits 8 x
  where
    eight : bits_of (x ∷ []) ≡ bits_of_number 8 x
    eight = unfold bits_of bits_of_number tabulate in refl

-- one byte in front
pub number-first : (x : ℕ) (l : List ℕ) → number (bits_of (x ∷ l)) ≡ x % 256 * 2 ^ (8 * length l) + number (bits_of l)
number-first x l = number-bytes (x ∷ []) l ∙ ap (λ (k : ℕ). k * 2 ^ (8 * length l) + number (bits_of l)) (number-byte x)

-- the number that n bytes make
pub number-low : (l : List ℕ) (n : ℕ) → length l ≡ n → number (bits_of l) < 2 ^ (8 * n)
number-low l n e = subst (λ (m : ℕ). number (bits_of l) < 2 ^ m) (length-bits l ∙ ap (λ (m : ℕ). 8 * m) e) (number_lt (bits_of l) (bits-bits l))

-- as many bytes that make one number are the same
pub bytes-equal : (a b : List ℕ) → Bytes a → Bytes b → length a ≡ length b → number (bits_of a) ≡ number (bits_of b) → a ≡ b
bytes-equal a b ba bb size e = sym (packed-bits a ba) ∙ ap packed same ∙ packed-bits b bb
  where
    same : bits_of a ≡ bits_of b
    same =
        sym (bits-of-number (bits_of a) (bits-bits a))
        ∙ ap₂ bits_of_number (length-bits a ∙ ap (λ (n : ℕ). 8 * n) size ∙ sym (length-bits b)) e
        ∙ bits-of-number (bits_of b) (bits-bits b)

pub number-bits : (n v : ℕ) → Bits (bits_of_number n v)
number-bits n v i =
    elim (dec_lt i n) [
      | yes h ↦ rw (get_d-bits-of n v i h) (mod-lt (v / 2 ^ (n - 1 - i)) (zero-lt-suc 1))
      | no h ↦ rw (get_or-eq_default (bits_of_number n v) 0 {n = i} (omega (arith, length-bits-of n v))) (omega arith)
    ]

-- a number of n bits behind which one of m bits stands
pub join-bits : (n m x y : ℕ) → x < 2 ^ n → y < 2 ^ m → bits_of_number (n + m) (x * 2 ^ m + y) ≡ bits_of_number n x ++ bits_of_number m y
join-bits n m x y hx hy =
    let size : length (bits_of_number n x ++ bits_of_number m y) ≡ n + m = omega (arith, length-append (bits_of_number n x) (bits_of_number m y), length-bits-of n x, length-bits-of m y) in
    let value : number (bits_of_number n x ++ bits_of_number m y) ≡ x * 2 ^ m + y =
    number_append (bits_of_number n x) (bits_of_number m y)
    ∙ ap₂ (λ (k a : ℕ). number (bits_of_number n x) * 2 ^ k + a) (length-bits-of m y) (number-of-bits m y ∙ mod-eq_of_lt hy)
    ∙ ap (λ (a : ℕ). a * 2 ^ m + y) (number-of-bits n x ∙ mod-eq_of_lt hx) in
    sym (ap₂ bits_of_number size value) ∙ bits-of-number (bits_of_number n x ++ bits_of_number m y) (bits-then (bits_of_number n x) (bits_of_number m y) (number-bits n x) (number-bits m y))
