-- Each element but 0 is a power of α, and so has order 255 and an inverse. Assumes nothing.
use mathlib.Core.Path.{◌≡◌, sym, ap, ◌∙◌}
use Prim.Native.Nat.{ℕ, ◌+◌, ◌*◌, ◌-◌, ◌/◌, ◌%◌, ◌<◌, ◌≤◌}
use native.Mathlib.Nat.{mul_comm, add-sub_of_le, div-add-mod'}
use native.Mathlib.Omega.{arith}
use Rattle.galois.specs.Field.{α, product, power, inverse}
use Rattle.galois.specs.Tables.{log}
use Rattle.galois.proofs.Product.{product-comm, product-assoc, product-zero, one_product, product-one}
use Rattle.galois.proofs.Power.{power-byte, power-add, power-mul, power-swap, power-one, power_zero}
use Rattle.galois.proofs.Logarithm.{power-log, α-cycle}

-- ---- the order of an element

pub power-255 : (a : ℕ) → 0 < a → a < 256 → power a 255 ≡ 1
power-255 a h below =
    ap (λ (x : ℕ). power x 255) (sym (power-log a h below))
    ∙ power-swap α (log a) 255
    ∙ ap (λ (x : ℕ). power x (log a)) α-cycle
    ∙ power-one (log a)

-- exponents count modulo 255
power-period : (a : ℕ) → 0 < a → a < 256 → (q r : ℕ) → power a (q * 255 + r) ≡ power a r
power-period a h below q r =
    power-add a (q * 255) r ∙ ap (λ (x : ℕ). product x (power a r)) turns ∙ one_product (power a r) (power-byte a r)
  where
    turns : power a (q * 255) ≡ 1
    turns = ap (power a) (mul_comm q 255) ∙ power-mul a 255 q ∙ ap (λ (x : ℕ). power x q) (power-255 a h below) ∙ power-one q

pub power-mod : (a : ℕ) → 0 < a → a < 256 → (k : ℕ) → power a (k % 255) ≡ power a k
power-mod a h below k = sym (power-period a h below (k / 255) (k % 255)) ∙ ap (power a) (div-add-mod' k 255)

-- exponents of α wrap at 255
pub power-wrap : (k : ℕ) → 255 ≤ k → power α (k - 255) ≡ power α k
power-wrap k h = sym (power-period α (omega arith) (omega arith) 1 (k - 255)) ∙ ap (power α) (add-sub_of_le h)

-- ---- the inverse

pub inverse-byte : (a : ℕ) → inverse a < 256
unfolding inverse
inverse-byte a = power-byte a _

pub inverse-zero : inverse 0 ≡ 0
unfolding inverse
inverse-zero = power_zero _ (λ e. omega (arith, e))

pub product-inverse : (a : ℕ) → 0 < a → a < 256 → product a (inverse a) ≡ 1
unfolding inverse power
product-inverse a h below = power-255 a h below

-- what a takes to c, its inverse takes back
pub product-undo : (a b c : ℕ) → 0 < a → a < 256 → b < 256 → product a b ≡ c → b ≡ product (inverse a) c
product-undo a b c h ha hb e =
    sym (one_product b hb)
    ∙ ap (λ (x : ℕ). product x b) (sym (product-inverse a h ha) ∙ product-comm a (inverse a))
    ∙ product-assoc (inverse a) a b
    ∙ ap (product (inverse a)) e

pub no-divisor : (a b : ℕ) → 0 < a → a < 256 → b < 256 → product a b ≡ 0 → b ≡ 0
no-divisor a b h ha hb e = product-undo a b 0 h ha hb e ∙ product-zero (inverse a)

pub inverse-only : (a b : ℕ) → 0 < a → a < 256 → b < 256 → product a b ≡ 1 → b ≡ inverse a
inverse-only a b h ha hb e = product-undo a b 1 h ha hb e ∙ product-one (inverse a) (inverse-byte a)
