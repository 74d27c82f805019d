-- What the must-fail edits of specs/Distance state is false; with it one pair of columns computed. Assumes nothing.
use mathlib.Core.Path.{◌≡◌, refl, sym, ap, subst⁻¹, ◌∙◌}
use mathlib.Core.Bool.{true, false, false≢true}
use mathlib.Core.List.{List, [], ◌∷◌, ◌++◌}
use Prim.Native.Nat.{ℕ, suc}
use native.Mathlib.Omega.{arith}
use lib.ListN.{get_or, take}
use Rattle.laws.specs.Bytes.{Bytes}
use Rattle.laws.specs.Differing.{differing}
use Rattle.laws.specs.Tabulate.{tabulate}
use Rattle.laws.proofs.Bytes.{bytes-none, bytes-cons, bytes-append}
use Rattle.laws.proofs.Differing.{differing-most}
use Rattle.laws.proofs.Tabulate.{length-tabulate}
use Rattle.galois.specs.Field.{α, sum, timesα, times, product, power}
use Rattle.galois.proofs.Sum.{sum_self}
use Rattle.galois.proofs.Product.{product-comm, one_product}
use Rattle.galois.proofs.Power.{power-byte, power-swap, power-one}
use Rattle.galois.proofs.Logarithm.{α-cycle}
use Rattle.column.specs.Column.{value_from, value, Roots, has_roots, generator}
use Rattle.column.specs.Distance.{Right, IsDistance}
use Rattle.column.proofs.Value.{zero_column, zeros-bytes, value-append, value-cons, value-moved}
use Rattle.column.proofs.Generator.{coefficients32, coefficients-32, generator-first, generator-bytes, generator-roots}
use Rattle.column.proofs.Distance.{zeros-right}
use Rattle.distance.specs.Distance.{Notices, OneWithin, Trades}

-- ---- the generator's 33 bytes beside 33 zeros, computed

abbrev generator33 : List ℕ
generator33 = 1 ∷ coefficients32

pub roots-computed : has_roots 32 generator33 ≡ true
unfolding coefficients32 has_roots value value_from power product times timesα sum
roots-computed = refl

pub places-computed : differing generator33 (zero_column 33) ≡ 33
unfolding coefficients32 differing tabulate
places-computed = refl

is-generator : generator33 ≡ generator 32
is-generator = ap (λ (l : List ℕ). 1 ∷ l) coefficients-32 ∙ sym (generator-first 32)

right33 : Right 32 33 generator33
unfolding coefficients32
right33 =
    record {
      size = refl;
      bytes = subst⁻¹ Bytes is-generator (generator-bytes 32);
      roots = subst⁻¹ (Roots 32) is-generator (generator-roots 32);
    }

unlike33 : generator33 ≡ zero_column 33 → ⊥
unfolding tabulate
unlike33 e = absurd (omega (arith, ap (λ (l : List ℕ). get_or l 0 0) e))

-- at least 34
pub not-34 : IsDistance 32 33 34 → ⊥
not-34 is = absurd (omega (arith, is.at_least generator33 (zero_column 33) right33 (zeros-right 32 33) unlike33, places-computed))

-- 33 wrong bytes noticed
pub not-noticed-33 : Notices 33 → ⊥
unfolding coefficients32
not-noticed-33 notices = false≢true (sym missing ∙ roots-computed)
  where
    missing : has_roots 32 generator33 ≡ false
    missing =
        notices generator33 (zero_column 33) (omega arith) (omega arith) right33.bytes (zeros-right 32 33) (omega (arith, places-computed))
        (omega (arith, places-computed))

-- ---- a column between them: 16 places from the generator, 17 from zeros

abbrev between33 : List ℕ
between33 = take 17 generator33 ++ zero_column 16

from-generator : differing between33 generator33 ≡ 16
unfolding coefficients32 differing tabulate
from-generator = refl

from-zeros : differing between33 (zero_column 33) ≡ 17
unfolding coefficients32 differing tabulate
from-zeros = refl

-- two right columns within 17
pub not-one-within-17 : OneWithin 17 → ⊥
unfolding coefficients32 tabulate
not-one-within-17 one =
    unlike33
    (one between33 generator33 (zero_column 33) (omega arith) (omega arith) (record { right = right33; few = omega (arith, from-generator) })
    (record { right = zeros-right 32 33; few = omega (arith, from-zeros) }))

-- who corrects up to 16 is not sure to notice 17
pub not-both-33 : Trades 33 → ⊥
unfolding coefficients32 tabulate
not-both-33 trades =
    unlike33
    (trades 16 17 (omega arith) between33 (zero_column 33) generator33 (omega arith) (omega arith) (record { right = zeros-right 32 33; few = omega (arith, from-zeros) })
    (record { right = right33; few = omega (arith, from-generator) }))

-- ---- columns of 32 bytes: no two differ in 33 places

pub not-of-32 : IsDistance 32 32 33 → ⊥
not-of-32 is =
    let pair = is.met (zero_column 32) (zeros-right 32 32) in
    absurd (omega (arith, pair.3, differing-most (zero_column 32) pair.0, length-tabulate {A = ℕ} 32 (λ _. 0)))

-- ---- columns of 256 bytes: x^255 + 1, which every power of α has as a root, and zeros

abbrev ends256 : List ℕ
ends256 = 1 ∷ zero_column 254 ++ 1 ∷ []

ends-right : (r : ℕ) → Right r 256 ends256
ends-right r =
    record {
      size = unfold tabulate in refl;
      bytes = bytes-cons 1 (zero_column 254 ++ 1 ∷ []) (omega arith) (bytes-append (zero_column 254) (1 ∷ []) (zeros-bytes 254) last);
      roots = λ i h. root (power α i) (power-swap α i 255 ∙ ap (λ (a : ℕ). power a i) α-cycle ∙ power-one i);
    }
  where
    last : Bytes (1 ∷ [])
    last = bytes-cons 1 [] (omega arith) bytes-none

    first : (x : ℕ) → value_from 1 (zero_column 254) x ≡ power x 254
    first x = value-moved 1 254 x (omega arith) ∙ one_product (power x 254) (power-byte x 254)

    next : (x n : ℕ) → product (power x n) x ≡ power x (suc n)
    next x n = unfold power in product-comm (power x n) x

    root : (x : ℕ) → power x 255 ≡ 1 → value ends256 x ≡ 0
    root x cycle =
        value-cons 1 (zero_column 254 ++ 1 ∷ []) x
        ∙ value-append 1 (zero_column 254) (1 ∷ []) x
        ∙ unfold value_from in ap (λ (v : ℕ). sum (product v x) 1) (first x)
        ∙ ap (λ (v : ℕ). sum v 1) (next x 254 ∙ cycle)
        ∙ sum_self 1

two-places : differing ends256 (zero_column 256) ≡ 2
unfolding differing tabulate
two-places = refl

unlike256 : ends256 ≡ zero_column 256 → ⊥
unfolding tabulate
unlike256 e = absurd (omega (arith, ap (λ (l : List ℕ). get_or l 0 0) e))

pub not-of-256 : IsDistance 32 256 33 → ⊥
not-of-256 is = absurd (omega (arith, is.at_least ends256 (zero_column 256) (ends-right 32) (zeros-right 32 256) unlike256, two-places))
