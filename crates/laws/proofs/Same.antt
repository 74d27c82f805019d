-- The comparison of two lists says whether they are equal; a search by it finds lists that are not. Assumes nothing.
use mathlib.Core.Bool.{Bool, true, not, false≢true}
use mathlib.Core.List.{List, [], ◌∷◌}
use mathlib.Core.Path.{◌≡◌, refl, sym, ap, ap₂, subst, ◌∙◌}
use Prim.Native.Nat.{ℕ, ◌<◌}
use native.Mathlib.Decide.{dec_lt}
use native.Mathlib.Omega.{arith}
use borrow.Author.Tests.{eq-eqb, eqb-true, not-false}
use lib.Dec.{eqb}
use Rattle.laws.specs.First.{first}
use Rattle.laws.proofs.First.{first_holds, first-all}
use Rattle.laws.proofs.Booleans.{and_left, and_right, and-true}
use Rattle.laws.specs.Same.{same}

pub same_true : (l m : List ℕ) → same l m ≡ true → l ≡ m
same_true [] [] e = refl
same_true [] (y ∷ m) e = absurd (false≢true e)
same_true (x ∷ l) [] e = absurd (false≢true e)
same_true (x ∷ l) (y ∷ m) e = ap₂ ◌∷◌ (eqb-true x y (and_left (eqb x y) (same l m) e)) (same_true l m (and_right (eqb x y) (same l m) e))

pub same_refl : (l : List ℕ) → same l l ≡ true
same_refl [] = refl
same_refl (x ∷ l) = and-true (eqb x x) (same l l) (eq-eqb x x refl) (same_refl l)

-- lists that are not all the same below n: an index at which they are not
pub some-unlike : (n : ℕ) (f g : ℕ → List ℕ) → (((k : ℕ) → k < n → f k ≡ g k) → ⊥) → (k : ℕ) × (k < n) × (f k ≡ g k → ⊥)
some-unlike n f g h =
    elim (dec_lt (first n p) n) [
      | yes below ↦ (first n p, below, λ e. absurd (false≢true (sym (ap not (alike (first n p) e)) ∙ (first_holds n p below).0)))
      | no past ↦ absurd (h (λ k lt. same_true (f k) (g k) (not-false (same (f k) (g k)) (first-all n p (omega arith) k lt))))
    ]
  where
    p : ℕ → Bool
    p k = not (same (f k) (g k))

    alike : (k : ℕ) → f k ≡ g k → same (f k) (g k) ≡ true
    alike k e = subst (λ (l : List ℕ). same (f k) l ≡ true) e (same_refl (f k))
