-- The generator is the product of x - α^i for i below r, so it is zero at each of these; the code's two tables are its coefficients. Assumes nothing.
use mathlib.Core.Path.{◌≡◌, refl, sym, ap, ap₂, ◌∙◌, subst⁻¹}
use mathlib.Core.List.{List, [], ◌∷◌, ◌++◌}
use mathlib.Core.Logic.{⊎_elim}
use Prim.Native.Nat.{ℕ, zero, suc, ◌<◌}
use native.Mathlib.Nat.{suc_inj, le_of_suc-le-suc, not-suc-le-zero, eq-or-lt_of_le}
use native.Mathlib.Omega.{arith}
use lib.ListN.{length, drop}
use Rattle.laws.specs.Bytes.{Bytes}
use Rattle.laws.proofs.Bytes.{bytes-none, bytes-cons}
use Rattle.galois.specs.Field.{α, sum, timesα, times, product, power}
use Rattle.galois.proofs.Sum.{sum-zero, sum_self}
use Rattle.galois.proofs.Product.{product-comm, sum-product, product-zero, zero-product}
use Rattle.column.specs.Column.{value_from, value, Roots, sums, scaled, times_root, generator}
use Rattle.column.proofs.Sums.{length-snoc, length-sums, length-scaled, bytes-sums, bytes-snoc, bytes-scaled}
use Rattle.column.proofs.Value.{value-append, value-cons, value-sums, value-scaled}

-- ---- the product

value-times-root : (a : ℕ) (cs : List ℕ) (x : ℕ) → value (times_root a cs) x ≡ product (sum x a) (value cs x)
unfolding value value_from times_root
value-times-root a cs x =
    ap (λ (u : ℕ). value_from u (sums (cs ++ 0 ∷ []) (0 ∷ scaled a cs)) x) (sym (sum_self 0))
    ∙ value-sums 0 0 (cs ++ 0 ∷ []) (0 ∷ scaled a cs) x (length-snoc cs ∙ ap suc (sym (length-scaled a cs)))
    ∙ ap₂ sum shifted multiple
    ∙ sym (sum-product (value cs x) x a)
  where
    shifted : value_from 0 (cs ++ 0 ∷ []) x ≡ product x (value cs x)
    shifted = value-append 0 cs (0 ∷ []) x ∙ sum-zero (product (value cs x) x) ∙ product-comm (value cs x) x

    multiple : value_from 0 (0 ∷ scaled a cs) x ≡ product a (value cs x)
    multiple =
        value-cons 0 (scaled a cs) x
        ∙ ap (λ (u : ℕ). value_from u (scaled a cs) x) (sym (product-zero a))
        ∙ value-scaled a 0 cs x

pub generator-product : (r x : ℕ) → value (generator (suc r)) x ≡ product (sum x (power α r)) (value (generator r) x)
unfolding generator
generator-product r x = value-times-root (power α r) (generator r) x

pub generator-roots : (r : ℕ) → Roots r (generator r)
generator-roots zero i h = absurd (not-suc-le-zero h)
generator-roots (suc r) i h =
    generator-product r (power α i)
    ∙ ⊎_elim
    (λ e.
    ap (λ (u : ℕ). product u (value (generator r) (power α i))) (ap (λ (k : ℕ). sum (power α i) (power α k)) (sym e) ∙ sum_self (power α i))
    ∙ zero-product (value (generator r) (power α i)))
    (λ k. ap (product (sum (power α i) (power α r))) (generator-roots r i k) ∙ product-zero (sum (power α i) (power α r)))
    (eq-or-lt_of_le (le_of_suc-le-suc h))

-- ---- its first coefficient is 1, and r others follow

times-root-first : (a : ℕ) (cs : List ℕ) → times_root a (1 ∷ cs) ≡ 1 ∷ drop 1 (times_root a (1 ∷ cs))
unfolding times_root sums
times-root-first a cs = ap (λ (u : ℕ). u ∷ sums (cs ++ 0 ∷ []) (scaled a (1 ∷ cs))) (sum-zero 1)

pub generator-first : (r : ℕ) → generator r ≡ 1 ∷ drop 1 (generator r)
unfolding generator
generator-first zero = refl
generator-first (suc r) =
    subst⁻¹ (λ (l : List ℕ). times_root (power α r) l ≡ 1 ∷ drop 1 (times_root (power α r) l)) (generator-first r)
    (times-root-first (power α r) (drop 1 (generator r)))

pub generator-length : (r : ℕ) → length (generator r) ≡ suc r
unfolding generator times_root
generator-length zero = refl
generator-length (suc r) =
    length-sums (generator r ++ 0 ∷ []) (0 ∷ scaled (power α r) (generator r))
    (length-snoc (generator r) ∙ ap suc (sym (length-scaled (power α r) (generator r))))
    ∙ length-snoc (generator r)
    ∙ ap suc (generator-length r)

pub generator-bytes : (r : ℕ) → Bytes (generator r)
unfolding generator times_root
generator-bytes zero = bytes-cons 1 [] (omega arith) bytes-none
generator-bytes (suc r) =
    bytes-sums (generator r ++ 0 ∷ []) (0 ∷ scaled (power α r) (generator r)) (bytes-snoc (generator r) (generator-bytes r))
    (bytes-cons 0 (scaled (power α r) (generator r)) (omega arith) (bytes-scaled (power α r) (generator r)))

-- ---- without its first coefficient, as the division takes it

pub coefficients-length : (r : ℕ) → length (drop 1 (generator r)) ≡ r
coefficients-length r = suc_inj (ap length (sym (generator-first r)) ∙ generator-length r)

pub coefficients-roots : (r i : ℕ) → i < r → value_from 1 (drop 1 (generator r)) (power α i) ≡ 0
coefficients-roots r i h =
    sym (value-cons 1 (drop 1 (generator r)) (power α i)) ∙ ap (λ (l : List ℕ). value l (power α i)) (sym (generator-first r)) ∙ generator-roots r i h

unfoldable pub coefficients32 : List ℕ
coefficients32 =
    116 ∷ 64 ∷ 52 ∷ 174 ∷ 54 ∷ 126 ∷ 16 ∷ 194 ∷ 162 ∷ 33 ∷ 33 ∷ 157 ∷ 176 ∷ 197 ∷ 225 ∷ 12 ∷
    59 ∷ 55 ∷ 253 ∷ 228 ∷ 148 ∷ 47 ∷ 179 ∷ 185 ∷ 24 ∷ 138 ∷ 253 ∷ 20 ∷ 142 ∷ 55 ∷ 172 ∷ 88 ∷ []

unfoldable pub coefficients4 : List ℕ
coefficients4 = 15 ∷ 54 ∷ 120 ∷ 64 ∷ []

pub coefficients-32 : coefficients32 ≡ drop 1 (generator 32)
unfolding generator coefficients32 times_root sums scaled power product times timesα sum
coefficients-32 = refl

pub coefficients-4 : coefficients4 ≡ drop 1 (generator 4)
unfolding generator coefficients4 times_root sums scaled power product times timesα sum
coefficients-4 = refl
