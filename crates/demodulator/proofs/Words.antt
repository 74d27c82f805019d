-- Words of 46 bits, one behind the other, as one number, and its bits. Assumes nothing.
use mathlib.Core.List.{List, [], ◌∷◌}
use mathlib.Core.Path.{◌≡◌, refl, sym, ap, ap₂, ◌∙◌}
use Prim.Native.Nat.{ℕ, zero, suc, ◌+◌, ◌*◌, ◌-◌, ◌/◌, ◌%◌, ◌^◌, ◌<◌, ◌≤◌}
use native.Mathlib.Nat.{add-mul, pow-suc, mul_assoc, mul_comm}
use native.Mathlib.Omega.{arith}
use lib.ListN.{length, get_or, set}
use lib.Pow.{shr-shr, high}
use lib.Seq.{ext_get_or, get_or-set_same, get_or-set_other}
use Rattle.laws.proofs.Tabulate.{length-tabulate, get_d_tabulate}
use Rattle.bits.specs.Bits.{number}
use Rattle.bits.proofs.Number.{below-block, number_bit}
use Rattle.modulation.specs.Modulation.{Two, two_number}
use Rattle.modulation.specs.Bits.{data_bits}
use Rattle.modulation.proofs.Bits.{length-data_bits}
use Rattle.modulation.proofs.Fronts.{bits-data_bits}
use Rattle.automaton.specs.Automaton.{onto}
use Rattle.modulation.specs.steps.Words.{bits_in}
use Rattle.automaton.proofs.Sound.{plain, onto-shift}

-- ---- the first n words as a number

pub joined : List ℕ → ℕ → ℕ
joined ws zero = 0
joined ws (suc n) = joined ws n * 70368744177664 + get_or ws n 0

pub joined-none : (ws : List ℕ) → joined ws 0 ≡ 0
unfolding joined
joined-none ws = refl

pub joined-set : (ws : List ℕ) (i v n : ℕ) → n ≤ i → joined (set ws i v) n ≡ joined ws n
unfolding joined
joined-set ws i v zero h = refl
joined-set ws i v (suc n) h = ap₂ (λ (x y : ℕ). x * 70368744177664 + y) (joined-set ws i v n (omega arith)) (get_or-set_other ws i n v 0 (λ e. omega (arith, e)))

-- one word more
pub joined-more : (ws : List ℕ) (i v : ℕ) → i < length ws → joined (set ws i v) (i + 1) ≡ joined ws i * 70368744177664 + v
unfolding joined
joined-more ws i v h =
    let next : i + 1 ≡ suc i = omega arith in
    ap (joined (set ws i v)) next ∙ ap₂ (λ (x y : ℕ). x * 70368744177664 + y) (joined-set ws i v i (omega arith)) (get_or-set_same ws i v 0 h)

-- ---- its bits

module _ (ws : List ℕ) (h : (i : ℕ) → get_or ws i 0 < 70368744177664) where
  -- without the last m words
  joined-high : (i m : ℕ) → joined ws (i + m) / 2 ^ (46 * m) ≡ joined ws i
  unfolding joined
  joined-high i zero = ap (λ (n : ℕ). joined ws n / 2 ^ (46 * 0)) (none i) ∙ one (joined ws i)
    where
      none : (i : ℕ) → i + 0 ≡ i
      none i = omega arith

      one : (x : ℕ) → x / 1 ≡ x
      one x = omega arith
  joined-high i (suc m) =
      ap₂ (λ (n k : ℕ). joined ws n / 2 ^ k) (next i m) (more m)
      ∙ sym (shr-shr (joined ws (suc (i + m))) 46 (46 * m))
      ∙ ap (λ (x : ℕ). x / 2 ^ (46 * m)) (high (joined ws (i + m)) 46 (h (i + m)))
      ∙ joined-high i m
    where
      next : (i m : ℕ) → i + suc m ≡ suc (i + m)
      next i m = omega arith

      more : (m : ℕ) → 46 * suc m ≡ 46 + 46 * m
      more m = omega arith

  pub joined-bit : (j : ℕ) → j < 1268 → joined ws 28 / 2 ^ (1267 - j) % 2 ≡ get_or ws ((j + 20) / 46) 0 / 2 ^ (45 - (j + 20) % 46) % 2
  unfolding joined
  joined-bit j hj =
      let i : ℕ = (j + 20) / 46 in
      let t : ℕ = 45 - (j + 20) % 46 in
      let split : 1267 - j ≡ 46 * (27 - i) + t = omega arith in
      let all : suc i + (27 - i) ≡ 28 = omega arith in
      ap (λ (k : ℕ). joined ws 28 / 2 ^ k % 2) split
      ∙ ap (λ (x : ℕ). x % 2) (sym (shr-shr (joined ws 28) (46 * (27 - i)) t))
      ∙ ap (λ (n : ℕ). joined ws n / 2 ^ (46 * (27 - i)) / 2 ^ t % 2) (sym all)
      ∙ ap (λ (x : ℕ). x / 2 ^ t % 2) (joined-high (suc i) (27 - i))
      ∙ below-block 46 (joined ws i) (get_or ws i 0) t (omega arith)

-- ---- the number of data bits

weight : (ds : List Two) → 2 ^ length (data_bits ds) ≡ 4 ^ length ds
weight [] = refl
weight (d ∷ ds) = twice (length (data_bits ds)) ∙ ap (λ (x : ℕ). x * 4) (weight ds) ∙ sym (pow-suc 4 (length ds))
  where
    twice : (n : ℕ) → 2 ^ suc (suc n) ≡ 2 ^ n * 4
    twice n = pow-suc 2 (suc n) ∙ ap (λ (x : ℕ). x * 2) (pow-suc 2 n) ∙ mul_assoc (2 ^ n) 2 2

pub number-bits : (ds : List Two) → number (data_bits ds) ≡ onto 0 ds
unfolding number onto
number-bits [] = refl
number-bits (d ∷ ds) =
    let p : ℕ = 2 ^ length (data_bits ds) in
    ap (λ (x : ℕ). two_number d / 2 * x + (two_number d % 2 * p + number (data_bits ds))) (pow-suc 2 (length (data_bits ds)))
    ∙ halves (two_number d) p (number (data_bits ds))
    ∙ ap₂ (λ (x y : ℕ). two_number d * x + y) (weight ds) (number-bits ds)
    ∙ ap (λ (x : ℕ). x * 4 ^ length ds + onto 0 ds) (sym (plain (two_number d)))
    ∙ sym (onto-shift (4 * 0 + two_number d) ds)
  where
    halves : (d p r : ℕ) → d / 2 * (p * 2) + (d % 2 * p + r) ≡ d * p + r
    halves d p r =
        let one : d / 2 * (p * 2) ≡ 2 * (d / 2) * p = ap (λ (x : ℕ). d / 2 * x) (mul_comm p 2) ∙ sym (mul_assoc (d / 2) 2 p) ∙ ap (λ (x : ℕ). x * p) (mul_comm (d / 2) 2) in
        let two : 2 * (d / 2) + d % 2 ≡ d = omega arith in
        let three = sym (add-mul (2 * (d / 2)) (d % 2) p) ∙ ap (λ (x : ℕ). x * p) two in
        omega (arith, one, three)

-- the words of a number hold its data bits
pub words-bits : (ws : List ℕ) (ds : List Two) → ((i : ℕ) → get_or ws i 0 < 70368744177664) → length ds ≡ 634 → onto 0 ds ≡ joined ws 28 → data_bits ds ≡ bits_in ws
unfolding bits_in
words-bits ws ds h size e = ext_get_or 0 (data_bits ds) (bits_in ws) (long ∙ sym (length-tabulate 1268 f)) (λ j l. at j (omega (arith, long)))
  where
    f : ℕ → ℕ
    f j = get_or ws ((j + 20) / 46) 0 / 2 ^ (45 - (j + 20) % 46) % 2

    long : length (data_bits ds) ≡ 1268
    long = omega (arith, length-data_bits ds)

    at : (j : ℕ) → j < 1268 → get_or (data_bits ds) j 0 ≡ get_or (bits_in ws) j 0
    at j l =
        sym (number_bit (data_bits ds) j (bits-data_bits ds) (omega (arith, long)))
        ∙ ap₂ (λ (x y : ℕ). x / 2 ^ (y - 1 - j) % 2) (number-bits ds ∙ e) long
        ∙ joined-bit ws h j l
        ∙ sym (get_d_tabulate 1268 f j 0 l)
