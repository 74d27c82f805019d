-- The pairs of a frame in its words. Assumes nothing.
use mathlib.Core.List.{List}
use mathlib.Core.Path.{◌≡◌, sym, ap, ap₂, ◌∙◌}
use Prim.Native.Nat.{ℕ, ◌+◌, ◌*◌, ◌-◌, ◌/◌, ◌%◌, ◌^◌, ◌<◌}
use native.Mathlib.Nat.{mod-lt, zero-lt-suc}
use native.Mathlib.Omega.{arith}
use lib.ListN.{length, get_or}
use lib.Pow.{shr-shr}
use Rattle.modulation.specs.Modulation.{two_number, d00}
use Rattle.modulation.specs.Bits.{two, pairs}
use Rattle.modulation.proofs.Bits.{length_pairs, two-number, get_d-pairs}
use Rattle.modulation.specs.steps.Words.{bits_in}
use Rattle.frame_bits.proofs.Unweaving.{word-bit, length-words-bits}

module _ (ws : List ℕ) where
  bit : ℕ → ℕ
  bit j = get_or ws ((j + 20) / 46) 0 / 2 ^ (45 - (j + 20) % 46) % 2

  bit-lt : (j : ℕ) → bit j < 2
  unfolding bit
  bit-lt j = mod-lt (get_or ws ((j + 20) / 46) 0 / 2 ^ (45 - (j + 20) % 46)) (zero-lt-suc 1)

  pub pair-count : length (pairs (bits_in ws)) ≡ 634
  pair-count = length_pairs (bits_in ws) ∙ ap (λ (n : ℕ). n / 2) (length-words-bits ws)

  -- pair p stands in word (p + 10) / 23
  module _ (p : ℕ) (h : p < 634) where
    high : bit (2 * p) ≡ get_or ws ((p + 10) / 23) 0 / 2 ^ (44 - 2 * ((p + 10) % 23)) / 2 % 2
    unfolding bit
    high =
        let word : (2 * p + 20) / 46 ≡ (p + 10) / 23 = omega arith in
        let up : 45 - (2 * p + 20) % 46 ≡ 44 - 2 * ((p + 10) % 23) + 1 = omega arith in
        ap₂ (λ (i k : ℕ). get_or ws i 0 / 2 ^ k % 2) word up
        ∙ ap (λ (n : ℕ). n % 2) (sym (shr-shr (get_or ws ((p + 10) / 23) 0) (44 - 2 * ((p + 10) % 23)) 1))

    low : bit (2 * p + 1) ≡ get_or ws ((p + 10) / 23) 0 / 2 ^ (44 - 2 * ((p + 10) % 23)) % 2
    unfolding bit
    low =
        let word : (2 * p + 1 + 20) / 46 ≡ (p + 10) / 23 = omega arith in
        let up : 45 - (2 * p + 1 + 20) % 46 ≡ 44 - 2 * ((p + 10) % 23) = omega arith in
        ap₂ (λ (i k : ℕ). get_or ws i 0 / 2 ^ k % 2) word up

    pub pair_is : get_or ws ((p + 10) / 23) 0 / 2 ^ (44 - 2 * ((p + 10) % 23)) % 4 ≡ two_number (get_or (pairs (bits_in ws)) p d00)
    unfolding bit
    pair_is =
        let v : ℕ = get_or ws ((p + 10) / 23) 0 / 2 ^ (44 - 2 * ((p + 10) % 23)) in
        let there : get_or (pairs (bits_in ws)) p d00 ≡ two (bit (2 * p)) (bit (2 * p + 1)) =
        get_d-pairs (bits_in ws) p (omega (arith, length-words-bits ws)) ∙ ap₂ two (word-bit ws (2 * p) (omega arith)) (word-bit ws (2 * p + 1) (omega arith))
        in
        fourth v ∙ sym (ap two_number there ∙ two-number (bit (2 * p)) (bit (2 * p + 1)) (bit-lt (2 * p)) (bit-lt (2 * p + 1)) ∙ ap₂ (λ (x y : ℕ). 2 * x + y) high low)
      where
        fourth : (v : ℕ) → v % 4 ≡ 2 * (v / 2 % 2) + v % 2
        fourth v = omega arith
