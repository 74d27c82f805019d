-- Two different columns of one length, at most 255 bytes, with r roots differ in more than r places; and each, of r + 1 bytes or more, differs from some
-- other in just r + 1. Assumes nothing.
use mathlib.Core.Path.{◌≡◌, refl, sym, ap, ap₂, subst, ◌∙◌, subst⁻¹}
use mathlib.Core.List.{List, ◌++◌}
use mathlib.Core.Logic.{◌↔◌}
use Prim.Native.Nat.{ℕ, suc, ◌+◌, ◌-◌, ◌<◌, ◌≤◌}
use native.Mathlib.Nat.{zero-add}
use native.Mathlib.Decide.{dec_lt}
use native.Mathlib.Omega.{arith}
use lib.ListN.{length, take, drop, length-append, take-append-drop}
use Rattle.laws.specs.Bytes.{Bytes}
use Rattle.laws.specs.Differing.{differing}
use Rattle.laws.specs.Tabulate.{tabulate}
use Rattle.laws.proofs.Bytes.{bytes-append, bytes_take}
use Rattle.laws.proofs.Differing.{differing-self, differing-comm, differing-most, differing-between, differing-append, differing-combined}
use Rattle.laws.proofs.Tabulate.{length-tabulate}
use Rattle.galois.specs.Field.{α, power}
use Rattle.column.specs.Column.{value_from, value, Roots, sums, generator, parity}
use Rattle.column.specs.Distance.{Right, Near, IsDistance}
use Rattle.column.proofs.Sums.{length-sums, bytes-sums, sums-combined}
use Rattle.column.proofs.Value.{zero_column, zeros-bytes, zeros-append, sum-root, value-append, value-zeros}
use Rattle.column.proofs.Generator.{generator-first, generator-length, generator-bytes, generator-roots}
use Rattle.column.proofs.Roots.{has-roots}
use Rattle.column.proofs.Linear.{sums_none}
use Rattle.column.proofs.Parity.{parity-roots, test-parity}
use Rattle.column.proofs.Sparse.{few-same}

-- ---- right columns

-- the last r bytes are the parity of those before
pub right-parity : (r n : ℕ) → r ≤ 255 → (column : List ℕ) → Bytes column → length column ≡ n + r
    → Right r (n + r) column ↔ (drop n column ≡ parity r (take n column))
right-parity r n few column bytes size = (
  λ right. test-parity r few n column bytes size ((has-roots r column).1 right.roots),
  λ same. record { size = size; bytes = bytes; roots = subst (Roots r) (whole same) (parity-roots r (take n column) (bytes_take n column bytes)) },
)
  where
    whole : drop n column ≡ parity r (take n column) → take n column ++ parity r (take n column) ≡ column
    whole same = ap (◌++◌ (take n column)) (sym same) ∙ take-append-drop n column

right-sums : (r n : ℕ) (c d : List ℕ) → Right r n c → Right r n d → Right r n (sums c d)
right-sums r n c d right other =
    record {
      size = length-sums c d e ∙ right.size;
      bytes = bytes-sums c d right.bytes other.bytes;
      roots = λ i h. sum-root 0 c d (power α i) e (unfold value in right.roots i h) (unfold value in other.roots i h);
    }
  where
    e : length c ≡ length d
    e = right.size ∙ sym other.size

pub zeros-right : (r n : ℕ) → Right r n (zero_column n)
zeros-right r n = record { size = length-tabulate n (λ _. 0); bytes = zeros-bytes n; roots = λ i h. unfold value in value-zeros n (power α i) }

-- ---- two of them, that differ in at most r places, are the same

module _ (r n : ℕ) (short : n ≤ 255) (c d : List ℕ) (right : Right r n c) (other : Right r n d) where
  close-same : differing c d ≤ r → c ≡ d
  close-same few =
      few-same r c d (right.size ∙ sym other.size) (omega (arith, right.size)) right.bytes other.bytes (right-sums r n c d right other).roots few

  -- so different ones differ in more
  pub apart : (c ≡ d → ⊥) → r < differing c d
  apart different = elim (dec_lt r (differing c d)) [ yes h ↦ h | no h ↦ absurd (different (close-same (omega arith))) ]

-- two near one column, by the triangle inequality
pub near-once : (r e f : ℕ) → e + f ≤ r → (w c d : List ℕ) → length w ≤ 255 → Near r e w c → Near r f w d → c ≡ d
near-once r e f most w c d short near other =
    close-same r (length w) short c d near.right other.right
    (omega (arith, differing-between w c d near.right.size other.right.size, near.few, other.few))

-- ---- the generator as a column of n bytes, behind zeros

abbrev pub generator_column : ℕ → ℕ → List ℕ
generator_column r n = zero_column (n - suc r) ++ generator r

module _ (r n : ℕ) (long : suc r ≤ n) where
  abbrev k : ℕ
  k = n - suc r

  generator-size : length (generator_column r n) ≡ n
  generator-size = omega (arith, length-append (zero_column k) (generator r), length-tabulate {A = ℕ} k (λ _. 0), generator-length r)

  pub generator-right : Right r n (generator_column r n)
  generator-right = record { size = generator-size; bytes = bytes-append (zero_column k) (generator r) (zeros-bytes k) (generator-bytes r); roots = roots }
    where
      roots : Roots r (generator_column r n)
      roots i h =
          unfold value in
          value-append 0 (zero_column k) (generator r) (power α i)
          ∙ ap (λ (v : ℕ). value_from v (generator r) (power α i)) (value-zeros k (power α i))
          ∙ generator-roots r i h

  behind : differing (generator_column r n) (zero_column n) ≡ differing (generator r) (zero_column (suc r))
  behind =
      ap (differing (generator_column r n)) (sym (zeros-append k (suc r) ∙ ap zero_column whole))
      ∙ differing-append (zero_column k) (zero_column k) (generator r) (zero_column (suc r)) refl
      ∙ ap (λ (d : ℕ). d + differing (generator r) (zero_column (suc r))) (differing-self (zero_column k))
      ∙ zero-add (differing (generator r) (zero_column (suc r)))
    where
      whole : k + suc r ≡ n
      whole = omega arith

  -- its first coefficient is 1
  some : 0 < differing (generator r) (zero_column (suc r))
  some = subst⁻¹ (λ (g : List ℕ). 0 < differing g (zero_column (suc r))) (generator-first r) (unfold differing tabulate in omega arith)

  -- it differs from zeros in just r + 1 places
  pub generator-apart : n ≤ 255 → differing (generator_column r n) (zero_column n) ≡ suc r
  generator-apart short = omega (arith, most, least, behind)
    where
      most : differing (generator r) (zero_column (suc r)) ≤ suc r
      most = omega (arith, differing-most (generator r) (zero_column (suc r)), generator-length r)

      unlike : generator_column r n ≡ zero_column n → ⊥
      unlike e = absurd (omega (arith, some, behind, ap (λ (c : List ℕ). differing c (zero_column n)) e, differing-self (zero_column n)))

      least : r < differing (generator_column r n) (zero_column n)
      least = apart r n short (generator_column r n) (zero_column n) generator-right (zeros-right r n) unlike

-- added to a column it changes as many places
sum-apart : (c g : List ℕ) → length g ≡ length c → differing c (sums c g) ≡ differing g (zero_column (length c))
sum-apart c g e =
    ap₂ differing (sym (sums_none c) ∙ sums-combined c (zero_column (length c))) (sums-combined c g)
    ∙ differing-combined c (zero_column (length c)) g (sym (length-tabulate (length c) (λ _. 0))) (sym e)
    ∙ differing-comm (zero_column (length c)) g

-- ---- the distance of columns of n bytes

pub distance_is : (r n : ℕ) → suc r ≤ n → n ≤ 255 → IsDistance r n (suc r)
distance_is r n long short = record { at_least = apart r n short; met = met }
  where
    far : (c : List ℕ) → Right r n c → differing c (sums c (generator_column r n)) ≡ suc r
    far c right =
        sum-apart c (generator_column r n) (generator-size r n long ∙ sym right.size)
        ∙ ap (λ (m : ℕ). differing (generator_column r n) (zero_column m)) right.size
        ∙ generator-apart r n long short

    met : (c : List ℕ) → Right r n c → (d : List ℕ) × Right r n d × (c ≡ d → ⊥) × (differing c d ≡ suc r)
    met c right = (sums c (generator_column r n), right-sums r n c (generator_column r n) right (generator-right r n long), unlike, far c right)
      where
        unlike : c ≡ sums c (generator_column r n) → ⊥
        unlike e = absurd (omega (arith, sym (far c right) ∙ ap (differing c) (sym e) ∙ differing-self c))

-- there is one
pub distance-once : (r n d d' : ℕ) → IsDistance r n d → IsDistance r n d' → d ≡ d'
distance-once r n d d' is is' = omega (arith, below d d' is is', below d' d is' is)
  where
    below : (a b : ℕ) → IsDistance r n a → IsDistance r n b → a ≤ b
    below a b one other =
        let pair = other.met (zero_column n) (zeros-right r n) in
        omega (arith, one.at_least (zero_column n) pair.0 (zeros-right r n) pair.1 pair.2, pair.3)
