-- Powers, products and inverses by the two tables: what stands at a place that is computed from logarithms. Assumes nothing.
use mathlib.Core.Path.{◌≡◌, refl, sym, ap, ap₂, ◌∙◌}
use mathlib.Core.List.{List}
use Prim.Native.Nat.{ℕ, zero, suc, ◌+◌, ◌*◌, ◌-◌, ◌%◌, ◌^◌, ◌<◌, ◌≤◌}
use native.Mathlib.Nat.{mul-le-mul_right, le_of_lt, mod-lt, zero-lt-suc, add-sub_of_le}
use native.Mathlib.Decide.{dec_lt}
use native.Mathlib.Omega.{arith}
use borrow.Author.Tests.{lt-ltb, le-ltb, ne_eqb}
use lib.ListN.{get_or, set}
use lib.Seq.{get_or-set_other}
use Rattle.galois.specs.Field.{α, product, power, inverse}
use Rattle.galois.specs.Tables.{log, power_table, log_table, AreTables, power_by, product_by}
use Rattle.galois.proofs.Product.{product-zero, zero-product}
use Rattle.galois.proofs.Power.{power-byte, power-add, power-mul}
use Rattle.galois.proofs.Logarithm.{powers-at, logs_at, log-small, power-log, α-cycle}
use Rattle.galois.proofs.Inverse.{power-mod, power-wrap, inverse-only}

-- ---- exponents

module _ (a : ℕ) (h : 0 < a) (below : a < 256) where
  log-product : (b : ℕ) → 0 < b → b < 256 → power α (log a + log b) ≡ product a b
  log-product b hb belowb = power-add α (log a) (log b) ∙ ap₂ product (power-log a h below) (power-log b hb belowb)

  log-power : (k : ℕ) → power α (log a * (k % 255) % 255) ≡ power a k
  log-power k =
      power-mod α (omega arith) (omega arith) (log a * (k % 255))
      ∙ power-mul α (log a) (k % 255)
      ∙ ap (λ (x : ℕ). power x (k % 255)) (power-log a h below)
      ∙ power-mod a h below k

  log-inverse : power α (255 - log a) ≡ inverse a
  log-inverse =
      inverse-only a (power α (255 - log a)) h below (power-byte α (255 - log a))
      (ap (λ (x : ℕ). product x (power α (255 - log a))) (sym (power-log a h below))
      ∙ sym (power-add α (log a) (255 - log a))
      ∙ ap (power α) (add-sub_of_le (omega (arith, log-small a h below)))
      ∙ α-cycle)

-- ---- the product

power-by : (k : ℕ) → k < 510 → power_by power_table k ≡ power α k
unfolding power_by
power-by k h =
    elim (dec_lt k 255) [
      | yes l ↦ rw (lt-ltb k 255 l) (powers-at k (omega arith))
      | no l ↦ rw (le-ltb k 255 (omega arith)) (powers-at (k - 255) (omega arith) ∙ power-wrap k (omega arith))
    ]

product-by : (a b : ℕ) → a < 256 → b < 256 → product_by power_table log_table a b ≡ product a b
unfolding product_by
product-by zero b ha hb = sym (zero-product b)
product-by (suc a) zero ha hb = rw (ne_eqb (suc a) 0 (λ e. omega (arith, e))) (sym (product-zero (suc a)))
product-by (suc a) (suc b) ha hb =
    rw (ne_eqb (suc a) 0 (λ e. omega (arith, e)), ne_eqb (suc b) 0 (λ e. omega (arith, e)), logs_at (suc a) ha, logs_at (suc b) hb)
    (power-by (log (suc a) + log (suc b)) (omega (arith, log-small (suc a) (omega arith) ha, log-small (suc b) (omega arith) hb))
    ∙ log-product (suc a) (omega arith) ha (suc b) (omega arith) hb)

-- its cases, for any two tables: i and j are the entries of a and b
module _ (p l : List ℕ) {a b i j : ℕ} (ha : a ≡ 0 → ⊥) (hb : b ≡ 0 → ⊥) (ea : i ≡ get_or l a 0) (eb : j ≡ get_or l b 0) where
  pub product-low : i + j < 255 → get_or p (i + j) 0 ≡ product_by p l a b
  unfolding product_by power_by
  product-low h = rw (ne_eqb a 0 ha, ne_eqb b 0 hb, ← ea, ← eb, lt-ltb (i + j) 255 h)

  pub product_high : 255 ≤ i + j → get_or p (i + j - 255) 0 ≡ product_by p l a b
  unfolding product_by power_by
  product_high h = rw (ne_eqb a 0 ha, ne_eqb b 0 hb, ← ea, ← eb, le-ltb (i + j) 255 h)

-- the entry at 0 of the table of logarithms is not used
pub log-zero-unused : (p l : List ℕ) (x a b : ℕ) → product_by p (set l 0 x) a b ≡ product_by p l a b
unfolding product_by
log-zero-unused p l x zero b = refl
log-zero-unused p l x (suc a) zero = rw (ne_eqb (suc a) 0 (λ e. omega (arith, e)))
log-zero-unused p l x (suc a) (suc b) =
    rw (get_or-set_other l 0 (suc a) x 0 (λ e. omega (arith, e)), get_or-set_other l 0 (suc b) x 0 (λ e. omega (arith, e)))

-- ---- in tables that are lent

module _ {p l : List ℕ} (tables : AreTables p l) where
  pub product-table : {a b r : ℕ} → a < 256 → b < 256 → r ≡ product_by p l a b → r ≡ product a b
  product-table {a} {b} ha hb e = e ∙ ap₂ (λ (x y : List ℕ). product_by x y a b) tables.powers tables.logs ∙ product-by a b ha hb

  -- i is the entry of a in the table of logarithms
  module _ {a i : ℕ} (h : 0 < a) (below : a < 256) (e : i ≡ get_or l a 0) where
    is-log : i ≡ log a
    is-log = e ∙ ap (λ (x : List ℕ). get_or x a 0) tables.logs ∙ logs_at a below

    pub power-table : (k : ℕ) → get_or p (i * (k % 255) % 255) 0 ≡ power a k
    power-table k =
        ap₂ (λ (x : List ℕ) (j : ℕ). get_or x (j * (k % 255) % 255) 0) tables.powers is-log
        ∙ powers-at (log a * (k % 255) % 255) (omega (arith, mod-lt (log a * (k % 255)) (zero-lt-suc 254)))
        ∙ log-power a h below k

    pub inverse-table : get_or p (255 - i) 0 ≡ inverse a
    inverse-table = ap₂ (λ (x : List ℕ) (j : ℕ). get_or x (255 - j) 0) tables.powers is-log ∙ powers-at (255 - log a) (omega arith) ∙ log-inverse a h below

-- the exponent fits any word
pub exponent-fits : {i : ℕ} → i < 256 → (k : ℕ) → i * (k % 255) < 2 ^ 16
exponent-fits {i} h k = omega (arith, mul-le-mul_right (k % 255) (le_of_lt h))
