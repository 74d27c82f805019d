-- The bytes, with the sum and the product of specs/Field.antt, are a field, and its elements other than 0 are the powers of α. Assumes nothing.
use mathlib.Core.Path.{◌≡◌}
use Prim.Native.Nat.{ℕ, ◌+◌, ◌<◌}
use Rattle.galois.specs.Field.{α, sum, product, power, inverse}
use Rattle.galois.specs.Tables.{log}
use Rattle.galois.proofs.Sum.{sum-assoc, sum_comm, sum-zero, sum_self, sum-byte}
use Rattle.galois.proofs.Product.{product-byte, product-assoc, product-comm, product-one, product-sum}
use Rattle.galois.proofs.Power.{power-add}
use Rattle.galois.proofs.Logarithm.{log-small, power-log, α-distinct, α-cycle}
use Rattle.galois.proofs.Inverse.{inverse-byte, product-inverse, no-divisor}

-- the laws of a field on the numbers below 256, with zero 0 and one 1; each element is its own negative
pub record IsField (add mul : ℕ → ℕ → ℕ) (invert : ℕ → ℕ) : Type 0 where
  pub add-closed : (a b : ℕ) → a < 256 → b < 256 → add a b < 256
  pub add-associative : (a b c : ℕ) → add (add a b) c ≡ add a (add b c)
  pub add-commutative : (a b : ℕ) → add a b ≡ add b a
  pub add-zero : (a : ℕ) → add a 0 ≡ a
  pub add-self : (a : ℕ) → add a a ≡ 0
  pub mul-closed : (a b : ℕ) → a < 256 → b < 256 → mul a b < 256
  pub mul-associative : (a b c : ℕ) → mul (mul a b) c ≡ mul a (mul b c)
  pub mul-commutative : (a b : ℕ) → mul a b ≡ mul b a
  pub mul-one : (a : ℕ) → a < 256 → mul a 1 ≡ a
  pub distributive : (a b c : ℕ) → mul a (add b c) ≡ add (mul a b) (mul a c)
  pub invert-closed : (a : ℕ) → a < 256 → invert a < 256
  pub mul-invert : (a : ℕ) → 0 < a → a < 256 → mul a (invert a) ≡ 1
  pub no-zero-divisors : (a b : ℕ) → 0 < a → a < 256 → b < 256 → mul a b ≡ 0 → b ≡ 0

pub field : IsField sum product inverse
field =
    record {
      add-closed = λ a b. sum-byte;
      add-associative = sum-assoc;
      add-commutative = sum_comm;
      add-zero = sum-zero;
      add-self = sum_self;
      mul-closed = λ a b ha hb. product-byte a b;
      mul-associative = product-assoc;
      mul-commutative = product-comm;
      mul-one = product-one;
      distributive = product-sum;
      invert-closed = λ a h. inverse-byte a;
      mul-invert = product-inverse;
      no-zero-divisors = no-divisor;
    }

-- a is a primitive element: its powers below 255 are distinct, reach every element but 0, and then start again
pub record IsPrimitive (a : ℕ) : Type 0 where
  pub distinct : (i j : ℕ) → i < 255 → j < 255 → power a i ≡ power a j → i ≡ j
  pub reaches : (b : ℕ) → 0 < b → b < 256 → (k : ℕ) × (k < 255) × (power a k ≡ b)
  pub cycle : power a 255 ≡ 1
  pub add : (i j : ℕ) → power a (i + j) ≡ product (power a i) (power a j)

pub primitive : IsPrimitive α
primitive =
    record {
      distinct = α-distinct;
      reaches = λ b h below. (log b, log-small b h below, power-log b h below);
      cycle = α-cycle;
      add = power-add α;
    }
