-- The lowest index at which a test holds.
use Rattle.std.specs.Prelude.{Bool, cond, ℕ, zero, suc}

-- the lowest k below n at which p holds, or n where there is none
unfoldable pub first : ℕ → (ℕ → Bool) → ℕ
first zero p = zero
first (suc n) p = cond (p zero) zero (suc (first n (λ k. p (suc k))))
