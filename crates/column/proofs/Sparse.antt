-- The bytes of a column that are not zero. A column of at most 255 bytes with r roots has none, or more than r of them. Assumes nothing.
use mathlib.Core.Path.{◌≡◌, refl, sym, ap, ap₂, ◌∙◌}
use mathlib.Core.Bool.{Bool, cond}
use mathlib.Core.List.{List, [], ◌∷◌}
use Prim.Native.Nat.{ℕ, zero, suc, ◌≤◌}
use native.Mathlib.Nat.{le_refl, le-suc, lt_of_lt_of_le}
use native.Mathlib.Omega.{arith}
use lib.Dec.{eqb}
use borrow.Author.Tests.{eq-eqb, ne_eqb}
use lib.ListN.{length}
use Rattle.laws.specs.Bytes.{Bytes}
use Rattle.laws.specs.Differing.{differing}
use Rattle.laws.proofs.Bytes.{bytes-cons}
use Rattle.laws.proofs.Differing.{differing-none}
use Rattle.galois.specs.Field.{α, sum, product, power}
use Rattle.galois.proofs.Sum.{sum_self, sum_same}
use Rattle.galois.proofs.Power.{power-swap}
use Rattle.column.specs.Column.{value_from, value, Roots, sums}
use Rattle.column.proofs.Sums.{length-sums, bytes-sums}
use Rattle.column.proofs.Value.{value-cons, value_out}
use Rattle.column.proofs.Powers.{total, Falls, Zeros, vanish}

-- ---- these bytes, and the exponents of their powers of x

unfoldable nonzero : List ℕ → List ℕ
nonzero [] = []
nonzero (zero ∷ cs) = nonzero cs
nonzero (suc c ∷ cs) = suc c ∷ nonzero cs

unfoldable exponents : List ℕ → List ℕ
exponents [] = []
exponents (zero ∷ cs) = exponents cs
exponents (suc c ∷ cs) = length cs ∷ exponents cs

exponents-length : (cs : List ℕ) → length (exponents cs) ≡ length (nonzero cs)
unfolding nonzero exponents
exponents-length [] = refl
exponents-length (zero ∷ cs) = exponents-length cs
exponents-length (suc c ∷ cs) = ap suc (exponents-length cs)

nonzero-bytes : (cs : List ℕ) → Bytes cs → Bytes (nonzero cs)
unfolding nonzero
nonzero-bytes [] b = b
nonzero-bytes (zero ∷ cs) b = nonzero-bytes cs (λ j. b (suc j))
nonzero-bytes (suc c ∷ cs) b = bytes-cons (suc c) (nonzero cs) (b 0) (nonzero-bytes cs (λ j. b (suc j)))

falls-from : (m n : ℕ) (ks : List ℕ) → m ≤ n → Falls m ks → Falls n ks
falls-from m n [] h f = tt
falls-from m n (k ∷ ks) h f = (lt_of_lt_of_le f.0 h, f.1)

exponents-fall : (cs : List ℕ) → Falls (length cs) (exponents cs)
unfolding exponents
exponents-fall [] = tt
exponents-fall (zero ∷ cs) = falls-from (length cs) (suc (length cs)) (exponents cs) (le-suc (length cs)) (exponents-fall cs)
exponents-fall (suc c ∷ cs) = (le_refl (suc (length cs)), exponents-fall cs)

-- ---- the value at α^s is their sum of powers

value-total : (cs : List ℕ) (s : ℕ) → Bytes cs → value cs (power α s) ≡ total (nonzero cs) (exponents cs) s
unfolding value value_from total nonzero exponents
value-total [] s b = refl
value-total (zero ∷ cs) s b = value-cons 0 cs (power α s) ∙ value-total cs s (λ j. b (suc j))
value-total (suc c ∷ cs) s b =
    value-cons (suc c) cs (power α s)
    ∙ value_out (suc c) cs (power α s) (b 0) (λ j. b (suc j))
    ∙ ap₂ (λ (p q : ℕ). sum (product (suc c) p) q) (power-swap α s (length cs)) (value-total cs s (λ j. b (suc j)))

no-zeros : (cs : List ℕ) → Zeros (nonzero cs) → length (nonzero cs) ≡ 0
unfolding nonzero
no-zeros [] z = refl
no-zeros (zero ∷ cs) z = no-zeros cs z
no-zeros (suc c ∷ cs) z = absurd (omega (arith, z.0))

-- no more of them than roots, then none
few-none : (r : ℕ) (cs : List ℕ) → Bytes cs → length cs ≤ 255 → Roots r cs → length (nonzero cs) ≤ r → length (nonzero cs) ≡ 0
few-none r cs b short roots few =
    no-zeros cs
    (vanish (exponents cs) (length cs) short (exponents-fall cs) (nonzero cs) (sym (exponents-length cs)) (nonzero-bytes cs b)
    (λ s h. sym (value-total cs s b) ∙ roots s (omega (arith, exponents-length cs))))

-- ---- two columns

-- they differ where their sum is not zero
differing-sums : (xs ys : List ℕ) → differing xs ys ≡ length (nonzero (sums xs ys))
unfolding nonzero sums differing
differing-sums [] ys = refl
differing-sums (x ∷ xs) [] = refl
differing-sums (x ∷ xs) (y ∷ ys) = by (sum x y) refl (differing-sums xs ys)
  where
    by : (n : ℕ) → sum x y ≡ n → differing xs ys ≡ length (nonzero (sums xs ys))
        → cond (eqb x y) (differing xs ys) (suc (differing xs ys)) ≡ length (nonzero (n ∷ sums xs ys))
    by zero e h = ap (λ (b : Bool). cond b (differing xs ys) (suc (differing xs ys))) (eq-eqb x y (sum_same x y e)) ∙ h
    by (suc n) e h = ap (λ (b : Bool). cond b (differing xs ys) (suc (differing xs ys))) (ne_eqb x y unlike) ∙ ap suc h
      where
        unlike : x ≡ y → ⊥
        unlike p = absurd (omega (arith, sym (ap (sum x) (sym p) ∙ sum_self x) ∙ e))

-- two that differ in no more places than their sum has roots are the same
pub few-same : (r : ℕ) (xs ys : List ℕ) → length xs ≡ length ys → length xs ≤ 255 → Bytes xs → Bytes ys → Roots r (sums xs ys)
    → differing xs ys ≤ r → xs ≡ ys
few-same r xs ys e short bx by roots few =
    differing-none xs ys e
    (differing-sums xs ys
    ∙ few-none r (sums xs ys) (bytes-sums xs ys bx by) (omega (arith, length-sums xs ys e)) roots (omega (arith, differing-sums xs ys)))
