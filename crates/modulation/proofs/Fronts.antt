-- What stands at the front of a list, element by element, and by the number that its bits make. Assumes nothing.
use mathlib.Core.Bool.{true, ◌&&◌, false≢true}
use mathlib.Core.List.{List, [], ◌∷◌, ◌++◌}
use mathlib.Core.Path.{◌≡◌, refl, sym, ap, ap₂, ◌∙◌}
use Prim.Native.Nat.{ℕ, zero, suc, ◌+◌, ◌*◌, ◌/◌, ◌%◌, ◌<◌}
use native.Mathlib.Omega.{arith}
use borrow.Author.Tests.{eqb-true, eq-eqb, leb-true, le-leb}
use lib.Dec.{eqb, leb}
use lib.ListN.{length, take, drop, length-append, take-append-drop}
use lib.Seq.{take-append_seam, length-take-le}
use Rattle.bits.specs.Bits.{Bits, number, bits_of_number}
use Rattle.bits.proofs.Number.{bits-of-number}
use Rattle.modulation.specs.Modulation.{Two, d00, d01, d10, d11, two_number, Three, m000, m001, m010, m011, m100, m101, m110, m111, three_number, starts}
use Rattle.modulation.specs.Bits.{two, pairs, data_bits, three, bits}
use Rattle.laws.proofs.Booleans.{and_left, and_right, and-true, same_tests}
use Rattle.modulation.proofs.Bits.{two_back, pairs-data_bits, length-data_bits}

-- ---- pairs and groups are determined by their numbers

pub two-injective : (c d : Two) → two_number c ≡ two_number d → c ≡ d
two-injective c d e = sym (two_back c) ∙ ap (λ (n : ℕ). two (n / 2) (n % 2)) e ∙ two_back d

three_back : (m : Three) → three (three_number m / 4 % 2) (three_number m / 2 % 2) (three_number m % 2) ≡ m
three_back m000 = refl
three_back m001 = refl
three_back m010 = refl
three_back m011 = refl
three_back m100 = refl
three_back m101 = refl
three_back m110 = refl
three_back m111 = refl

pub three-injective : (l m : Three) → three_number l ≡ three_number m → l ≡ m
three-injective l m e = sym (three_back l) ∙ ap (λ (n : ℕ). three (n / 4 % 2) (n / 2 % 2) (n % 2)) e ∙ three_back m

pub three-below : (m : Three) → three_number m < 8
three-below m000 = omega arith
three-below m001 = omega arith
three-below m010 = omega arith
three-below m011 = omega arith
three-below m100 = omega arith
three-below m101 = omega arith
three-below m110 = omega arith
three-below m111 = omega arith

-- ---- element by element

module _ {A : Type 0} (n : A → ℕ) (injective : (x y : A) → n x ≡ n y → x ≡ y) where
  pub starts-split : (xs l : List A) → starts n xs l ≡ true → l ≡ xs ++ drop (length xs) l
  starts-split [] l e = refl
  starts-split (x ∷ xs) [] e = absurd (false≢true e)
  starts-split (x ∷ xs) (y ∷ l) e =
      ap₂ ◌∷◌ (sym (injective x y (eqb-true (n x) (n y) (and_left (eqb (n x) (n y)) (starts n xs l) e))))
      (starts-split xs l (and_right (eqb (n x) (n y)) (starts n xs l) e))

  pub starts-append : (xs t : List A) → starts n xs (xs ++ t) ≡ true
  starts-append [] t = refl
  starts-append (x ∷ xs) t = rw (eq-eqb (n x) (n x) refl, starts-append xs t)

  -- ---- by the number of the bits
  module _ (code : List A → List ℕ) (width : ℕ) (decode : List ℕ → List A) (back : (l : List A) → decode (code l) ≡ l)
      (code-length : (l : List A) → length (code l) ≡ width * length l) (code-bits : (l : List A) → Bits (code l)) where
    number-injective : (l m : List A) → length l ≡ length m → number (code l) ≡ number (code m) → l ≡ m
    number-injective l m e h =
        sym (back l)
        ∙ ap decode (sym (bits-of-number (code l) (code-bits l)) ∙ ap₂ bits_of_number (code-length l ∙ ap (λ (k : ℕ). width * k) e ∙ sym (code-length m)) h ∙ bits-of-number (code m) (code-bits m))
        ∙ back m

    pub starts-number : (xs l : List A)
        → starts n xs l ≡ (leb (length xs) (length l) && eqb (number (code (take (length xs) l))) (number (code xs)))
    starts-number xs l = same_tests (starts n xs l) (leb (length xs) (length l) && eqb (number (code (take (length xs) l))) (number (code xs))) there back-again
      where
        there : starts n xs l ≡ true → (leb (length xs) (length l) && eqb (number (code (take (length xs) l))) (number (code xs))) ≡ true
        there e =
            let split = starts-split xs l e in
            let front : take (length xs) l ≡ xs = ap (take (length xs)) split ∙ take-append_seam xs (drop (length xs) l) in
            and-true (leb (length xs) (length l)) _
            (le-leb (length xs) (length l) (omega (arith, ap length split, length-append xs (drop (length xs) l))))
            (eq-eqb (number (code (take (length xs) l))) (number (code xs)) (ap (λ (k : List A). number (code k)) front))

        back-again : (leb (length xs) (length l) && eqb (number (code (take (length xs) l))) (number (code xs))) ≡ true → starts n xs l ≡ true
        back-again e =
            let within = leb-true (length xs) (length l) (and_left (leb (length xs) (length l)) _ e) in
            let same = eqb-true (number (code (take (length xs) l))) (number (code xs)) (and_right (leb (length xs) (length l)) _ e) in
            let front = number-injective (take (length xs) l) xs (length-take-le (length xs) l within) same in
            ap (starts n xs) (sym (take-append-drop (length xs) l) ∙ ap (λ (k : List A). k ++ drop (length xs) l) front) ∙ starts-append xs (drop (length xs) l)

pub bits-data_bits : (ds : List Two) → Bits (data_bits ds)
bits-data_bits [] i = omega arith
bits-data_bits (d00 ∷ ds) zero = omega arith
bits-data_bits (d01 ∷ ds) zero = omega arith
bits-data_bits (d10 ∷ ds) zero = omega arith
bits-data_bits (d11 ∷ ds) zero = omega arith
bits-data_bits (d ∷ ds) (suc zero) = omega arith
bits-data_bits (d ∷ ds) (suc (suc i)) = bits-data_bits ds i

pub bits-groups : (ms : List Three) → Bits (bits ms)
bits-groups [] i = omega arith
bits-groups (m ∷ ms) zero = omega arith
bits-groups (m ∷ ms) (suc zero) = omega arith
bits-groups (m ∷ ms) (suc (suc zero)) = omega arith
bits-groups (m ∷ ms) (suc (suc (suc i))) = bits-groups ms i

pub pairs_start : (xs ds : List Two) → starts two_number xs ds ≡ (leb (length xs) (length ds) && eqb (number (data_bits (take (length xs) ds))) (number (data_bits xs)))
pairs_start = starts-number two_number two-injective data_bits 2 pairs pairs-data_bits length-data_bits bits-data_bits
