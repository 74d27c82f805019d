-- The verdict, comparison by comparison. Assumes nothing.
use mathlib.Core.Path.{◌≡◌}
use mathlib.Core.List.{List}
use Prim.Native.Nat.{ℕ, ◌≤◌}
use borrow.Author.Tests.{eq-eqb, le-ltb}
use Rattle.verdict.specs.declared.Verdict.TheVariants.{Pass}
use Rattle.comparison.specs.Compared.{first_other, compared}

-- what is read; u and s are what was found
module _ (psn : ℕ) (user side : List ℕ) (found : ℕ) (bytes control : List ℕ) where
  pub all_same : (u s : ℕ) → found ≡ psn → u ≡ first_other 65536 user bytes → 65536 ≤ u → s ≡ first_other 592 side control → 592 ≤ s
      → Pass ≡ compared psn user side found bytes control
  unfolding compared
  all_same u s e hu h hs l = rw (eq-eqb found psn e, ← hu, le-ltb u 65536 h, ← hs, le-ltb s 592 l)
