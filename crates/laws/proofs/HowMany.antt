-- Some index passes a test exactly where their number is above 0. Assumes nothing.
use mathlib.Core.Path.{◌≡◌, refl}
use mathlib.Core.Bool.{Bool, true, false, cond}
use Prim.Native.Nat.{ℕ, zero, suc, ◌<◌, suc-le-suc}
use native.Mathlib.Nat.{not-suc-le-zero, le_of_suc-le-suc, zero-lt-suc}
use Rattle.laws.specs.HowMany.{how_many}

pub some-passes : (m : ℕ) (p : ℕ → Bool) → 0 < how_many m p → (i : ℕ) × (i < m) × (p i ≡ true)
unfolding how_many
some-passes zero p h = absurd (not-suc-le-zero h)
some-passes (suc m) p h = by (p zero) refl _ (how_many m (λ i. p (suc i))) h (λ g. some-passes m (λ i. p (suc i)) g)
  where
    by : (t : Bool) → p zero ≡ t → (k n : ℕ) → 0 < cond t k n → (0 < n → (i : ℕ) × (i < m) × (p (suc i) ≡ true)) → (i : ℕ) × (i < suc m) × (p i ≡ true)
    by true e k n h rest = (zero, zero-lt-suc m, e)
    by false e k n h rest = let found = rest h in (suc found.0, suc-le-suc found.1, found.2)

pub passes-some : (m : ℕ) (p : ℕ → Bool) (i : ℕ) → i < m → p i ≡ true → 0 < how_many m p
unfolding how_many
passes-some zero p i h e = absurd (not-suc-le-zero h)
passes-some (suc m) p zero h e = rw e (zero-lt-suc _)
passes-some (suc m) p (suc i) h e = by (p zero) _ (how_many m (λ i. p (suc i))) (passes-some m (λ i. p (suc i)) i (le_of_suc-le-suc h) e)
  where
    by : (t : Bool) (k n : ℕ) → 0 < n → 0 < cond t (suc k) n
    by true k n g = zero-lt-suc _
    by false k n g = g
