-- A few pairs as a number: those at the front, those behind, and whether the pairs of a row stand there. Assumes nothing.
use mathlib.Core.Bool.{Bool, false, ◌&&◌}
use mathlib.Core.List.{List}
use mathlib.Core.Path.{◌≡◌, sym, ap, ap₂, subst, ◌∙◌}
use Prim.Native.Nat.{ℕ, ◌+◌, ◌*◌, ◌-◌, ◌/◌, ◌%◌, ◌^◌, ◌<◌, ◌≤◌}
use native.Mathlib.Nat.{mod-eq_of_lt}
use native.Mathlib.Omega.{arith}
use borrow.Author.Tests.{le-leb, lt-leb}
use lib.Dec.{eqb, leb}
use lib.ListN.{length, take, drop, take-append-drop, length-drop}
use lib.Pow.{high, low}
use Rattle.bits.specs.Bits.{number, bits_of_number}
use Rattle.bits.proofs.Concat.{number_append, number-bits}
use Rattle.bits.proofs.Number.{length-bits-of, number-of-bits, bits-of-number, number_lt}
use Rattle.modulation.specs.Modulation.{Two, two_number, row_at, starts}
use Rattle.modulation.specs.Bits.{pairs, data_bits}
use Rattle.modulation.proofs.Bits.{length_pairs, length-data_bits, pairs-data_bits, data_bits-pairs, data_bits-append}
use Rattle.modulation.proofs.Fronts.{bits-data_bits, pairs_start}
use Rattle.conversion.specs.declared.Row.{Row as CodeRow}
use Rattle.conversion.specs.steps.Rows.{IsRow}
use Rattle.conversion.specs.steps.Few.{few_pairs}
use Rattle.conversion.proofs.CodedRows.{code-sized}

-- pairs are those of their number
pub few-back : (ds : List Two) → few_pairs (length ds) (number (data_bits ds)) ≡ ds
unfolding few_pairs
few-back ds =
    ap (λ (k : ℕ). pairs (bits_of_number k (number (data_bits ds)))) (sym (length-data_bits ds)) ∙ ap pairs (bits-of-number (data_bits ds) (bits-data_bits ds)) ∙ pairs-data_bits ds

-- the last pairs of ds behind the first m, as numbers
module _ (ds : List Two) (m : ℕ) where
  rest-size : length (data_bits (drop m ds)) ≡ 2 * (length ds - m)
  rest-size = length-data_bits (drop m ds) ∙ ap (λ (k : ℕ). 2 * k) (length-drop m ds)

  rest_lt : number (data_bits (drop m ds)) < 2 ^ (2 * (length ds - m))
  rest_lt = subst (λ (k : ℕ). number (data_bits (drop m ds)) < 2 ^ k) rest-size (number_lt (data_bits (drop m ds)) (bits-data_bits (drop m ds)))

  cut : number (data_bits ds) ≡ number (data_bits (take m ds)) * 2 ^ (2 * (length ds - m)) + number (data_bits (drop m ds))
  cut =
      ap (λ (l : List Two). number (data_bits l)) (sym (take-append-drop m ds))
      ∙ ap number (data_bits-append (take m ds) (drop m ds))
      ∙ number_append (data_bits (take m ds)) (data_bits (drop m ds))
      ∙ ap (λ (k : ℕ). number (data_bits (take m ds)) * 2 ^ k + number (data_bits (drop m ds))) rest-size

module _ (n p : ℕ) where
  pub few-size : length (few_pairs n p) ≡ n
  unfolding few_pairs
  few-size =
      let half : 2 * n / 2 ≡ n = omega arith in
      length_pairs (bits_of_number (2 * n) p) ∙ ap (λ (k : ℕ). k / 2) (length-bits-of (2 * n) p) ∙ half

  few-number : p < 2 ^ (2 * n) → number (data_bits (few_pairs n p)) ≡ p
  unfolding few_pairs
  few-number h =
      let even : 2 * n % 2 ≡ 0 = omega arith in
      ap number (data_bits-pairs (bits_of_number (2 * n) p) (ap (λ (k : ℕ). k % 2) (length-bits-of (2 * n) p) ∙ even) (number-bits (2 * n) p))
      ∙ number-of-bits (2 * n) p
      ∙ mod-eq_of_lt h

  module _ (h : p < 2 ^ (2 * n)) (m : ℕ) where
    abbrev back : ℕ
    back = 2 * (n - m)

    split : p ≡ number (data_bits (take m (few_pairs n p))) * 2 ^ back + number (data_bits (drop m (few_pairs n p)))
    split =
        sym (few-number h) ∙ cut (few_pairs n p) m
        ∙ ap (λ (k : ℕ). number (data_bits (take m (few_pairs n p))) * 2 ^ (2 * (k - m)) + number (data_bits (drop m (few_pairs n p)))) few-size

    behind-lt : number (data_bits (drop m (few_pairs n p))) < 2 ^ back
    behind-lt = subst (λ (k : ℕ). number (data_bits (drop m (few_pairs n p))) < 2 ^ (2 * (k - m))) few-size (rest_lt (few_pairs n p) m)

    pub few-front : p / 2 ^ back ≡ number (data_bits (take m (few_pairs n p)))
    few-front = ap (λ (x : ℕ). x / 2 ^ back) split ∙ high (number (data_bits (take m (few_pairs n p)))) back behind-lt

    pub few-rest : few_pairs (n - m) (p % 2 ^ back) ≡ drop m (few_pairs n p)
    few-rest =
        ap₂ few_pairs (ap (λ (k : ℕ). k - m) (sym few-size) ∙ sym (length-drop m (few_pairs n p)))
        (ap (λ (x : ℕ). x % 2 ^ back) split ∙ low (number (data_bits (take m (few_pairs n p)))) back behind-lt)
        ∙ few-back (drop m (few_pairs n p))

-- ---- whether the pairs of row k stand at the front

-- a test of a length and of a number
test-not : {s : Bool} (len left x y : ℕ) → s ≡ (leb len left && eqb x y) → left < len → false ≡ s
test-not len left x y e l = sym (e ∙ ap (λ (b : Bool). b && eqb x y) (lt-leb len left l))

test-if : {s : Bool} (len left x y : ℕ) → s ≡ (leb len left && eqb x y) → len ≤ left → eqb x y ≡ s
test-if len left x y e l = sym (e ∙ ap (λ (b : Bool). b && eqb x y) (le-leb len left l))

module _ {k : ℕ} {r : CodeRow} (row : IsRow k r) (n p : ℕ) where
  pub stands-not : n < r.pairs → false ≡ starts two_number (row_at k).pairs (few_pairs n p)
  stands-not l =
      let len = length (row_at k).pairs in
      test-not len (length (few_pairs n p)) (number (data_bits (take len (few_pairs n p)))) (number (data_bits (row_at k).pairs))
      (pairs_start (row_at k).pairs (few_pairs n p)) (omega (arith, (code-sized row).pairs-are, few-size n p))

  pub stands-if : p < 2 ^ (2 * n) → r.pairs ≤ n → eqb (p / 2 ^ (2 * (n - r.pairs))) r.data_bits ≡ starts two_number (row_at k).pairs (few_pairs n p)
  stands-if small l =
      let len = length (row_at k).pairs in
      ap (λ (s : CodeRow). eqb (p / 2 ^ (2 * (n - s.pairs))) s.data_bits) row.is
      ∙ ap (λ (x : ℕ). eqb x (number (data_bits (row_at k).pairs))) (few-front n p small len)
      ∙ test-if len (length (few_pairs n p)) (number (data_bits (take len (few_pairs n p)))) (number (data_bits (row_at k).pairs))
      (pairs_start (row_at k).pairs (few_pairs n p)) (omega (arith, (code-sized row).pairs-are, few-size n p))
