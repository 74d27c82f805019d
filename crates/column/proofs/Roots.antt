-- The test for roots, in both directions, and in a loop. Assumes nothing.
use mathlib.Core.Path.{◌≡◌, refl, sym, ap, ◌∙◌}
use mathlib.Core.Bool.{Bool, true, false, cond}
use mathlib.Core.List.{List}
use mathlib.Core.Logic.{◌↔◌, ⊎_elim}
use Prim.Native.Nat.{ℕ, zero, suc, ◌+◌, ◌<◌, ◌≤◌}
use native.Mathlib.Nat.{le_refl, le-suc, le_trans, le_of_suc-le-suc, not-suc-le-zero, eq-or-lt_of_le}
use native.Mathlib.Numerals.{add-one}
use native.Mathlib.Omega.{arith}
use lib.Dec.{eqb}
use borrow.Author.Tests.{eqb-true, eq-eqb}
use Rattle.galois.specs.Field.{α, power}
use Rattle.column.specs.Column.{value, Roots, has_roots}

-- ---- the test holds exactly where the roots are there

test-roots : (r : ℕ) (column : List ℕ) → has_roots r column ≡ true → Roots r column
unfolding has_roots
test-roots zero column e i h = absurd (not-suc-le-zero h)
test-roots (suc r) column e i h = by (eqb (value column (power α r)) 0) refl e (λ t k. test-roots r column t i k)
  where
    by : (b : Bool) → eqb (value column (power α r)) 0 ≡ b → cond b (has_roots r column) false ≡ true
        → (has_roots r column ≡ true → i < r → value column (power α i) ≡ 0) → value column (power α i) ≡ 0
    by true t e lower =
        ⊎_elim (λ q. ap (λ (k : ℕ). value column (power α k)) q ∙ eqb-true (value column (power α r)) 0 t) (lower e) (eq-or-lt_of_le (le_of_suc-le-suc h))
    by false t e lower = let z : ◌≡◌ {A = ℕ} 0 1 = cc in absurd (omega arith)

roots-test : (r : ℕ) (column : List ℕ) → Roots r column → has_roots r column ≡ true
unfolding has_roots
roots-test zero column roots = refl
roots-test (suc r) column roots =
    rw (eq-eqb (value column (power α r)) 0 (roots r (le_refl (suc r)))) (roots-test r column (λ i h. roots i (le_trans h (le-suc r))))

pub has-roots : (r : ℕ) (column : List ℕ) → (has_roots r column ≡ true) ↔ Roots r column
has-roots r column = (test-roots r column, roots-test r column)

-- ---- in a loop

-- the first i of r roots are there
pub record Rooted (column : List ℕ) (r i : ℕ) : Type 0 where
  pub within : i ≤ r
  pub right : has_roots i column ≡ true

pub rooted_none : (column : List ℕ) (r : ℕ) → Rooted column r 0
unfolding has_roots
rooted_none column r = record { within = omega arith; right = refl }

-- v is the value at x, which is α^i
module _ {column : List ℕ} {r i x v : ℕ} (h : i < r) (place : x ≡ power α i) (found : v ≡ value column x) (rooted : Rooted column r i) where
  pub rooted_more : v ≡ 0 → Rooted column r (i + 1)
  unfolding has_roots
  rooted_more root =
      record {
        within = omega arith;
        right = rw (add-one i, eq-eqb (value column (power α i)) 0 (ap (value column) (sym place) ∙ sym found ∙ root)) rooted.right;
      }

  pub rooted-fails : (v ≡ 0 → ⊥) → false ≡ has_roots r column
  rooted-fails missing = by (has_roots r column) refl
    where
      by : (b : Bool) → has_roots r column ≡ b → false ≡ b
      by true t = absurd (missing (found ∙ ap (value column) place ∙ test-roots r column t i h))
      by false t = refl

pub rooted-all : {column : List ℕ} {r i : ℕ} → r ≤ i → Rooted column r i → true ≡ has_roots r column
rooted-all {column} {r} {i} h rooted = sym (ap (λ (n : ℕ). has_roots n column) (omega (arith, rooted.within)) ∙ rooted.right)
