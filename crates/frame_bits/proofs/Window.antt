-- Bits through two numbers of w bits, one behind the other: data bits by words of 45 bits, a frame's bits by words of 46. Assumes nothing.
use mathlib.Core.Path.{◌≡◌, sym, ap, ap₂, subst, ◌∙◌}
use Prim.Native.Nat.{ℕ, ◌+◌, ◌*◌, ◌-◌, ◌/◌, ◌%◌, ◌^◌, ◌<◌, ◌≤◌}
use native.Mathlib.Nat.{add_comm, mul_assoc, mod-lt, mul-mod_left, add-mul-div_right}
use native.Mathlib.Decide.{dec_lt}
use native.Mathlib.Omega.{arith}
use lib.Arith.{digits_lt}
use lib.Pow.{pow_pos, pow-add, shr_lt, shl-shr, shr-shr, split, high, low, mod-pow-add, mod-mod-pow}
use Rattle.bits.proofs.Number.{below-block}
use Rattle.frame_bits.specs.steps.Words.{Word}

module _ (w a b c : ℕ) (hb : b < 2 ^ w) (hc : c < w) (hw : w ≤ 64) where
  -- the w bits from bit c on
  window : a * 2 ^ c % 2 ^ 64 % 2 ^ w + b / 2 ^ (w - c) ≡ (a * 2 ^ w + b) / 2 ^ (w - c) % 2 ^ w
  window =
      let room : 64 ≡ 64 - w + w = omega arith in
      ap (λ (x : ℕ). x + q) (ap (λ (n : ℕ). a * 2 ^ c % 2 ^ n % 2 ^ w) room ∙ mod-mod-pow (a * 2 ^ c) (64 - w) w ∙ cut (a * 2 ^ c) a 0 (shl-shr a c) (mul-mod_left a (2 ^ c)))
      ∙ plain (a % 2 ^ d * 2 ^ c) q
      ∙ sym (ap (λ (x : ℕ). x % 2 ^ w) moved ∙ cut (a * 2 ^ c + q) a q (high a c small) (low a c small))
    where
      d : ℕ
      d = w - c

      q : ℕ
      q = b / 2 ^ d

      small : q < 2 ^ c
      small = let sum : w ≡ c + d = omega arith in shr_lt c d (subst (λ (n : ℕ). b < 2 ^ n) sum hb)

      plain : (x y : ℕ) → x + 0 + y ≡ x + y
      plain x y = omega arith

      cut : (v x r : ℕ) → v / 2 ^ c ≡ x → v % 2 ^ c ≡ r → v % 2 ^ w ≡ x % 2 ^ d * 2 ^ c + r
      cut v x r e f =
          let sum : w ≡ d + c = omega arith in
          ap (λ (n : ℕ). v % 2 ^ n) sum ∙ mod-pow-add v d c ∙ ap₂ (λ (y z : ℕ). y % 2 ^ d * 2 ^ c + z) e f

      moved : (a * 2 ^ w + b) / 2 ^ d ≡ a * 2 ^ c + q
      moved =
          let sum : w ≡ c + d = omega arith in
          let parts : a * 2 ^ w ≡ a * 2 ^ c * 2 ^ d = ap (λ (n : ℕ). a * 2 ^ n) sum ∙ ap (λ (x : ℕ). a * x) (pow-add 2 c d) ∙ sym (mul_assoc a (2 ^ c) (2 ^ d)) in
          ap (λ (x : ℕ). x / 2 ^ d) (ap (λ (x : ℕ). x + b) parts ∙ add_comm (a * 2 ^ c * 2 ^ d) b) ∙ add-mul-div_right b (a * 2 ^ c) (pow_pos d) ∙ add_comm q (a * 2 ^ c)

  -- v is the first n of them
  module _ (n : ℕ) {v : ℕ} (hn : n ≤ w) (is : v ≡ (a * 2 ^ c % 2 ^ 64 % 2 ^ w + b / 2 ^ (w - c)) / 2 ^ (w - n)) where
    pub window-lt : v < 2 ^ n
    window-lt =
        let x : ℕ = (a * 2 ^ w + b) / 2 ^ (w - c) in
        let sum : w ≡ n + (w - n) = omega arith in
        subst (λ (y : ℕ). y < 2 ^ n) (sym (is ∙ ap (λ (y : ℕ). y / 2 ^ (w - n)) window)) (shr_lt n (w - n) (subst (λ (k : ℕ). x % 2 ^ w < 2 ^ k) sum (mod-lt x (pow_pos w))))

    both : (u : ℕ) → u < n → v / 2 ^ (n - 1 - u) % 2 ≡ (a * 2 ^ w + b) / 2 ^ (w - c + (w - 1 - u)) % 2
    both u hu =
        let x : ℕ = (a * 2 ^ w + b) / 2 ^ (w - c) in
        let lower : w - n + (n - 1 - u) ≡ w - 1 - u = omega arith in
        ap (λ (y : ℕ). y / 2 ^ (n - 1 - u) % 2) (is ∙ ap (λ (y : ℕ). y / 2 ^ (w - n)) window)
        ∙ ap (λ (y : ℕ). y % 2) (shr-shr (x % 2 ^ w) (w - n) (n - 1 - u) ∙ ap (λ (k : ℕ). x % 2 ^ w / 2 ^ k) lower)
        ∙ sym (ap (λ (y : ℕ). y / 2 ^ (w - 1 - u) % 2) (sym (split x w)) ∙ below-block w (x / 2 ^ w) (x % 2 ^ w) (w - 1 - u) (omega arith))
        ∙ ap (λ (y : ℕ). y % 2) (shr-shr (a * 2 ^ w + b) (w - c) (w - 1 - u))

    -- bit u of them lies in the first number, or in the second
    pub in-first : (u : ℕ) → u < n → c + u < w → v / 2 ^ (n - 1 - u) % 2 ≡ a / 2 ^ (w - 1 - (c + u)) % 2
    in-first u hu h =
        let up : w - c + (w - 1 - u) ≡ w + (w - 1 - (c + u)) = omega arith in
        both u hu
        ∙ ap (λ (k : ℕ). (a * 2 ^ w + b) / 2 ^ k % 2) up
        ∙ ap (λ (y : ℕ). y % 2) (sym (shr-shr (a * 2 ^ w + b) w (w - 1 - (c + u))) ∙ ap (λ (y : ℕ). y / 2 ^ (w - 1 - (c + u))) (high a w hb))

    pub in-second : (u : ℕ) → u < n → w ≤ c + u → v / 2 ^ (n - 1 - u) % 2 ≡ b / 2 ^ (w - 1 - (c + u - w)) % 2
    in-second u hu h =
        let same : w - c + (w - 1 - u) ≡ w - 1 - (c + u - w) = omega arith in
        both u hu ∙ ap (λ (k : ℕ). (a * 2 ^ w + b) / 2 ^ k % 2) same ∙ below-block w a b (w - 1 - (c + u - w)) (omega arith)

-- ---- a number's low bits

pub low_bit : (n x t : ℕ) → t < n → x % 2 ^ n / 2 ^ t % 2 ≡ x / 2 ^ t % 2
low_bit n x t h = sym (below-block n (x / 2 ^ n) (x % 2 ^ n) t h) ∙ ap (λ (y : ℕ). y / 2 ^ t % 2) (split x n)

-- ---- two numbers as one

pub joined : {f : ℕ → ℕ} {a b : ℕ} (n m p : ℕ) → Word n f p a → Word m f (p + n) b → Word (n + m) f p (a * 2 ^ m + b)
joined {f} {a} {b} n m p u v =
    record {
      small = subst (λ (k : ℕ). a * 2 ^ m + b < k) (sym (pow-add 2 n m)) (digits_lt {q = a} {m = 2 ^ n} {r = b} {c = 2 ^ m} u.small v.small);
      bit = λ j hj.
          elim (dec_lt j n) [
            | yes h ↦
                let up : n + m - 1 - j ≡ m + (n - 1 - j) = omega arith in
                ap (λ (k : ℕ). (a * 2 ^ m + b) / 2 ^ k % 2) up
                ∙ ap (λ (x : ℕ). x % 2) (sym (shr-shr (a * 2 ^ m + b) m (n - 1 - j)) ∙ ap (λ (x : ℕ). x / 2 ^ (n - 1 - j)) (high a m v.small))
                ∙ u.bit j h
            | no h ↦
                let same : n + m - 1 - j ≡ m - 1 - (j - n) = omega arith in
                let place : p + n + (j - n) ≡ p + j = omega arith in
                ap (λ (k : ℕ). (a * 2 ^ m + b) / 2 ^ k % 2) same
                ∙ below-block m a b (m - 1 - (j - n)) (omega arith)
                ∙ v.bit (j - n) (omega arith)
                ∙ ap f place
          ];
    }
