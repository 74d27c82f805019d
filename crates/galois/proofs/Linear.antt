-- Maps that keep sums: on bytes such a map is fixed by its values at the eight bits, which antt computes. Assumes nothing.
use mathlib.Core.Path.{◌≡◌, sym, ap, ap₂, ◌∙◌, subst}
use Prim.Native.Nat.{ℕ, zero, suc, ◌*◌, ◌/◌, ◌%◌, ◌^◌, ◌<◌}
use native.Mathlib.Nat.{mod-lt, zero-mul, one-mul, div-lt_iff_lt-mul, pow-suc, mul_comm, le_refl, le-suc, le_trans}
use native.Mathlib.Omega.{arith}
use lib.Arith.{lt-one}
use lib.Pow.{split, pow_pos}
use lib.Dec.{T, eqb, eqb→eq}
use lib.Bits.{xor_shifted}
use Rattle.laws.proofs.Finite.{all, all₂, all₂-at, equal-below}
use Rattle.galois.specs.Field.{sum}
use Rattle.galois.proofs.Sum.{sum_self}

abbrev pub Linear : (ℕ → ℕ) → Type 0
Linear f = (a b : ℕ) → f (sum a b) ≡ sum (f a) (f b)

pub linear-zero : (f : ℕ → ℕ) → Linear f → f 0 ≡ 0
linear-zero f h = ap f (sym (sum_self 0)) ∙ h 0 0 ∙ sum_self (f 0)

-- a bit times a linear map's value
pub linear-bit : (f : ℕ → ℕ) → Linear f → (x b : ℕ) → x < 2 → f (x * b) ≡ x * f b
linear-bit f h zero b l = ap f (zero-mul b) ∙ linear-zero f h ∙ sym (zero-mul (f b))
linear-bit f h (suc zero) b l = ap f (one-mul b) ∙ sym (one-mul (f b))
linear-bit f h (suc (suc x)) b l = absurd (omega arith)

module _ (f g : ℕ → ℕ) (hf : Linear f) (hg : Linear g) where
  by_bits : (n : ℕ) → ((i : ℕ) → i < n → f (2 ^ i) ≡ g (2 ^ i)) → (a : ℕ) → a < 2 ^ n → f a ≡ g a
  unfolding sum
  by_bits zero e a h = ap f (lt-one h) ∙ linear-zero f hf ∙ sym (linear-zero g hg) ∙ ap g (sym (lt-one h))
  by_bits (suc n) e a h =
      ap f (sym whole)
      ∙ hf (a / 2 ^ n * 2 ^ n) (a % 2 ^ n)
      ∙ ap₂ sum
      (linear-bit f hf (a / 2 ^ n) (2 ^ n) small ∙ ap (◌*◌ (a / 2 ^ n)) (e n (le_refl (suc n))) ∙ sym (linear-bit g hg (a / 2 ^ n) (2 ^ n) small))
      (by_bits n (λ i k. e i (le_trans k (le-suc n))) (a % 2 ^ n) (mod-lt a (pow_pos n)))
      ∙ sym (hg (a / 2 ^ n * 2 ^ n) (a % 2 ^ n))
      ∙ ap g whole
    where
      whole : sum (a / 2 ^ n * 2 ^ n) (a % 2 ^ n) ≡ a
      whole = xor_shifted (a / 2 ^ n) n (a % 2 ^ n) (mod-lt a (pow_pos n)) ∙ split a n

      small : a / 2 ^ n < 2
      small = (div-lt_iff_lt-mul (pow_pos n)).1 (subst (λ (m : ℕ). a < m) (pow-suc 2 n ∙ mul_comm (2 ^ n) 2) h)

  -- eight values
  pub linear : T (all 8 (λ i. eqb (f (2 ^ i)) (g (2 ^ i)))) → (a : ℕ) → a < 256 → f a ≡ g a
  linear t = by_bits 8 (equal-below 8 (λ i. f (2 ^ i)) (λ i. g (2 ^ i)) t)

-- two maps that are linear in each argument: 64 values
pub bilinear : (f g : ℕ → ℕ → ℕ) → ((b : ℕ) → Linear (λ a. f a b)) → ((a : ℕ) → Linear (f a)) → ((b : ℕ) → Linear (λ a. g a b))
    → ((a : ℕ) → Linear (g a)) → T (all₂ 8 8 (λ i j. eqb (f (2 ^ i) (2 ^ j)) (g (2 ^ i) (2 ^ j)))) → (a b : ℕ) → a < 256 → b < 256 → f a b ≡ g a b
bilinear f g fl fr gl gr t a b ha hb =
    by_bits (λ x. f x b) (λ x. g x b) (fl b) (gl b) 8
    (λ i hi.
    by_bits (f (2 ^ i)) (g (2 ^ i)) (fr (2 ^ i)) (gr (2 ^ i)) 8
    (λ j hj. eqb→eq (f (2 ^ i) (2 ^ j)) (g (2 ^ i) (2 ^ j)) (all₂-at 8 8 (λ i j. eqb (f (2 ^ i) (2 ^ j)) (g (2 ^ i) (2 ^ j))) t i j hi hj)) b hb) a ha
