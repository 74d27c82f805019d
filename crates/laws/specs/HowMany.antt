-- How many indexes pass a test.
use Rattle.std.specs.Prelude.{Bool, cond, ℕ, zero, suc}

-- how many i below m pass a test
unfoldable pub how_many : ℕ → (ℕ → Bool) → ℕ
how_many zero p = 0
how_many (suc m) p = cond (p zero) (suc (how_many m (λ i. p (suc i)))) (how_many m (λ i. p (suc i)))
