-- Polynomials over bits as numbers: products with G(x). Assumes nothing.
use mathlib.Core.Path.{◌≡◌, refl, sym, ap, ◌∙◌}
use Prim.Native.Nat.{ℕ, zero, suc, ◌+◌, ◌*◌, ◌/◌, ◌%◌, ◌^◌, ◌<◌}
use native.Mathlib.Nat.{mul_comm, mul_assoc}
use native.Mathlib.Omega.{arith}
use lib.Arith.{bin_ind}
use lib.Bits.{bit_xor, xor_comm, xor_lt, xor_shifted}
use Rattle.laws.proofs.Xor.{xor_assoc, xor-cancel, xor-left, xor-scaled}
use Rattle.edc.specs.Edc.{polynomial_g, times_g}

pub times_zero : times_g 0 ≡ 0
unfolding times_g
times_zero = refl

pub times-one : times_g 1 ≡ polynomial_g
unfolding times_g
times-one = ap (bit_xor (1 * 2 ^ 32)) (xor_shifted 1 31 17 (omega arith)) ∙ xor_shifted 1 32 (2 ^ 31 + 17) (omega arith)

pub times-add : (p q : ℕ) → times_g (bit_xor p q) ≡ bit_xor (times_g p) (times_g q)
unfolding times_g
times-add p q = rw (xor-scaled p q 32, xor-scaled p q 31, xor-scaled p q 4) (simp (xor_assoc, xor_comm, xor-left))

pub times-scaled : (q k : ℕ) → times_g (q * 2 ^ k) ≡ times_g q * 2 ^ k
unfolding times_g
times-scaled q k =
    let a : ℕ = q * 2 ^ 32 in
    let b : ℕ = q * 2 ^ 31 in
    let c : ℕ = q * 2 ^ 4 in
    rw (swap 32, swap 31, swap 4, xor-scaled a (bit_xor b (bit_xor c q)) k, xor-scaled b (bit_xor c q) k, xor-scaled c q k)
  where
    swap : (j : ℕ) → q * 2 ^ k * 2 ^ j ≡ q * 2 ^ j * 2 ^ k
    swap j = mul_assoc q (2 ^ k) (2 ^ j) ∙ ap (λ (x : ℕ). q * x) (mul_comm (2 ^ k) (2 ^ j)) ∙ sym (mul_assoc q (2 ^ j) (2 ^ k))

-- one bit more
pub times_more : (q b : ℕ) → b < 2 → times_g (q * 2 + b) ≡ bit_xor (times_g q * 2) (times_g b)
times_more q b h = ap times_g (sym (xor_shifted q 1 b h)) ∙ times-add (q * 2) b ∙ ap (λ (x : ℕ). bit_xor x (times_g b)) (times-scaled q 1)

times-bit : (b : ℕ) → b < 2 → times_g b ≡ b * polynomial_g
times-bit zero h = times_zero
times-bit (suc zero) h = times-one
times-bit (suc (suc b)) h = absurd (omega arith)

-- of the multiples only 0 has a degree below 32
pub times-low : (q : ℕ) → times_g q < 2 ^ 32 → q ≡ 0
times-low =
    bin_ind (λ (q : ℕ). times_g q < 2 ^ 32 → q ≡ 0) (λ h. refl)
    (λ q half low.
    let bit : times_g (q % 2) ≡ q % 2 * polynomial_g = times-bit (q % 2) (omega arith) in
    let split : times_g q ≡ bit_xor (times_g (q / 2) * 2) (times_g (q % 2)) = ap times_g (omega arith) ∙ times_more (q / 2) (q % 2) (omega arith) in
    let rest : bit_xor (times_g q) (times_g (q % 2)) ≡ times_g (q / 2) * 2 = ap (λ (x : ℕ). bit_xor x (times_g (q % 2))) split ∙ xor-cancel (times_g (q / 2) * 2) (times_g (q % 2)) in
    let front : q / 2 ≡ 0 = half (omega (arith, rest, xor_lt 33 (times_g q) (times_g (q % 2)) (omega arith) (omega arith))) in
    let own : times_g q ≡ q * polynomial_g = times-bit q (omega arith) in
    omega arith)
