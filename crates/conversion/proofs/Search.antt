-- A search through rows for the first that passes a test. Assumes nothing.
use mathlib.Core.Bool.{Bool, true, false}
use mathlib.Core.Path.{◌≡◌, sym}
use Prim.Native.Nat.{ℕ, ◌<◌, ◌≤◌}
use native.Mathlib.Omega.{arith}
use Rattle.std.specs.Prelude.{Option, Some, None, MatchOption, SomeIff}
use Rattle.laws.specs.First.{first}
use Rattle.laws.proofs.First.{first-at, first-none}

-- what `find` answers, over the numbers below n
pub first-found : (n : ℕ) (p : ℕ → Bool) (r : Option ℕ)
    → MatchOption r ((k : ℕ) → 0 ≤ k → k < n → p k ≡ false) (λ i. (0 ≤ i) × (i < n) × (p i ≡ true) × ((k : ℕ) → 0 ≤ k → k < i → p k ≡ false))
    → SomeIff r (first n p < n) (first n p)
first-found n p None h = λ below. omega (arith, first-none n p (record { fails = λ k l. h k (omega arith) l }))
first-found n p (Some i) h =
    let same : first n p ≡ i = first-at n p i h.1 (record { fails = λ k l. h.3 k (omega arith) l }) h.2 in
    (omega (arith, same, h.1), sym same)
