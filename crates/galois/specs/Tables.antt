-- The tables of the powers of α and of the logarithms, and the product by way of two such tables.
use Rattle.std.specs.Prelude.{◌≡◌, cond, List, ℕ, zero, suc, ◌+◌, ◌-◌, eqb, ltb, get_or}
use Rattle.laws.specs.First.{first}
use Rattle.laws.specs.Tabulate.{tabulate}
use Rattle.galois.specs.Field.{α, power}

-- the logarithm of a to the base α: the lowest k with α^k = a; 0 has none, and its entry is 0
unfoldable pub log : ℕ → ℕ
log zero = 0
log (suc a) = first 255 (λ k. eqb (power α k) (suc a))

unfoldable pub power_table : List ℕ
power_table = tabulate 256 (power α)

unfoldable pub log_table : List ℕ
log_table = tabulate 256 log

-- p and l are the two tables
pub record AreTables (p l : List ℕ) : Type 0 where
  pub powers : p ≡ power_table
  pub logs : l ≡ log_table

-- what stands in a table of powers at k, the sum of two logarithms; 255 is taken off once where k is not below it
unfoldable pub power_by : List ℕ → ℕ → ℕ
power_by powers k = cond (ltb k 255) (get_or powers k 0) (get_or powers (k - 255) 0)

-- the product of a and b by way of two tables
unfoldable pub product_by : List ℕ → List ℕ → ℕ → ℕ → ℕ
product_by powers logs a b = cond (eqb a 0) 0 (cond (eqb b 0) 0 (power_by powers (get_or logs a 0 + get_or logs b 0)))
