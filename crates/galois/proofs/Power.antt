-- The laws of powers. Assumes nothing.
use mathlib.Core.Path.{◌≡◌, refl, sym, ap, ◌∙◌}
use Prim.Native.Nat.{ℕ, zero, suc, ◌+◌, ◌*◌, ◌<◌}
use native.Mathlib.Nat.{zero-add, suc-add, mul_comm, mul-zero, mul-suc}
use native.Mathlib.Omega.{arith}
use Rattle.galois.specs.Field.{product, power}
use Rattle.galois.proofs.Product.{product-byte, product-comm, product-assoc, one_product, zero-product}

pub power-byte : (a k : ℕ) → power a k < 256
unfolding power
power-byte a zero = omega arith
power-byte a (suc k) = product-byte a (power a k)

pub power-add : (a i j : ℕ) → power a (i + j) ≡ product (power a i) (power a j)
unfolding power
power-add a zero j = ap (power a) (zero-add j) ∙ sym (one_product (power a j) (power-byte a j))
power-add a (suc i) j = ap (power a) (suc-add i j) ∙ ap (product a) (power-add a i j) ∙ sym (product-assoc a (power a i) (power a j))

pub power-mul : (a i j : ℕ) → power a (i * j) ≡ power (power a i) j
unfolding power
power-mul a i zero = ap (power a) (mul-zero i)
power-mul a i (suc j) =
    ap (power a) (mul-suc i j) ∙ power-add a (i * j) i ∙ product-comm (power a (i * j)) (power a i) ∙ ap (product (power a i)) (power-mul a i j)

-- the order of two exponents is free
pub power-swap : (a i j : ℕ) → power (power a i) j ≡ power (power a j) i
power-swap a i j = sym (power-mul a i j) ∙ ap (power a) (mul_comm i j) ∙ power-mul a j i

pub power-one : (k : ℕ) → power 1 k ≡ 1
unfolding power
power-one zero = refl
power-one (suc k) = ap (product 1) (power-one k) ∙ one_product 1 (omega arith)

pub power_zero : (k : ℕ) → (k ≡ 0 → ⊥) → power 0 k ≡ 0
unfolding power
power_zero zero h = absurd (h refl)
power_zero (suc k) h = zero-product (power 0 k)
