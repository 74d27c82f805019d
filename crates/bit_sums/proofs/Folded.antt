-- A number and itself some bits lower. Assumes nothing.
use mathlib.Core.Path.{◌≡◌, sym, ap, ◌∙◌}
use Prim.Native.Nat.{ℕ, ◌+◌, ◌/◌, ◌^◌, ◌<◌}
use native.Mathlib.Nat.{mod-lt, add_comm, zero-mul, div-eq_of_lt, lt_of_le_of_lt}
use native.Mathlib.Omega.{arith}
use lib.Bits.{bit_xor, xor_comm, xor_zero_r, xor_lt, xor_shr}
use lib.Pow.{pow_pos, split, shr-shr, shr_le}
use Rattle.laws.proofs.Xor.{xor_assoc, xor-left, xor-twice, xor-equal}

-- ---- a number and itself k bits lower

unfoldable pub folded : ℕ → ℕ → ℕ
folded k x = bit_xor x (x / 2 ^ k)

pub folded-twice : (k x : ℕ) → folded k (folded k x) ≡ folded (k + k) x
unfolding folded
folded-twice k x = rw (xor_shr x (x / 2 ^ k) k, shr-shr x k k) (simp (xor_assoc, xor-twice))

pub folded-comm : (j k x : ℕ) → folded j (folded k x) ≡ folded k (folded j x)
unfolding folded
folded-comm j k x = rw (xor_shr x (x / 2 ^ k) j, xor_shr x (x / 2 ^ j) k, shr-shr x k j, shr-shr x j k, add_comm k j) (simp (xor_assoc, xor-left))

pub folded-xor : (k x y : ℕ) → folded k (bit_xor x y) ≡ bit_xor (folded k x) (folded k y)
unfolding folded
folded-xor k x y = rw (xor_shr x y k) (simp (xor_assoc, xor_comm))

folded-out : (k x : ℕ) → x < 2 ^ k → folded k x ≡ x
unfolding folded
folded-out k x h = ap (bit_xor x) (div-eq_of_lt h) ∙ xor_zero_r x

pub folded-shr : (k j x : ℕ) → folded k x / 2 ^ j ≡ folded k (x / 2 ^ j)
unfolding folded
folded-shr k j x = rw (xor_shr x (x / 2 ^ k) j, shr-shr x k j, shr-shr x j k, add_comm k j)

pub folded-lt : (k j x : ℕ) → x < 2 ^ j → folded k x < 2 ^ j
unfolding folded
folded-lt k j x h = xor_lt j x (x / 2 ^ k) h (lt_of_le_of_lt (shr_le x k) h)

-- a number that with itself one bit lower is below 2^k
pub folded_low : (k x : ℕ) → folded 1 x < 2 ^ k → x < 2 ^ k
unfolding folded
folded_low k x h =
    let u : ℕ = x / 2 ^ k in
    let half : x / 2 ^ 1 / 2 ^ k ≡ u / 2 = shr-shr x 1 k ∙ ap (λ (n : ℕ). x / 2 ^ n) (add_comm 1 k) ∙ sym (shr-shr x k 1) in
    let same : u ≡ u / 2 = xor-equal u (u / 2) (ap (bit_xor u) (sym half) ∙ sym (xor_shr x (x / 2 ^ 1) k) ∙ div-eq_of_lt h) in
    let none : u ≡ 0 = omega arith in
    rw (sym (split x k), none) (omega (arith, zero-mul (2 ^ k), mod-lt x (pow_pos k)))

-- ---- sums of the bits above

pub unsummed : (w : ℕ) → w < 2 ^ 64 → folded 1 (folded 32 (folded 16 (folded 8 (folded 4 (folded 2 (folded 1 w)))))) ≡ w
unsummed w h =
    rw (
      folded-comm 1 32 (folded 16 (folded 8 (folded 4 (folded 2 (folded 1 w))))),
      folded-comm 1 16 (folded 8 (folded 4 (folded 2 (folded 1 w)))),
      folded-comm 1 8 (folded 4 (folded 2 (folded 1 w))),
      folded-comm 1 4 (folded 2 (folded 1 w)),
      folded-comm 1 2 (folded 1 w),
      folded-twice 1 w,
      folded-twice 2 w,
      folded-twice 4 w,
      folded-twice 8 w,
      folded-twice 16 w,
      folded-twice 32 w,
    ) (folded-out 64 w h)
