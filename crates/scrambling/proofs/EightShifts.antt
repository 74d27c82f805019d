-- Eight shifts at once: the shift of a sum is the sum of the shifts, so a test on the registers with one byte zero is enough. Assumes nothing.
use mathlib.Core.Path.{◌≡◌, refl, sym, ap, ap₂, ◌∙◌}
use Prim.Native.Nat.{ℕ, zero, suc, ◌+◌, ◌*◌, ◌/◌, ◌%◌, ◌^◌, ◌<◌}
use native.Mathlib.Nat.{mod-lt, zero-lt-suc}
use native.Mathlib.Omega.{arith}
use lib.Bits.{bit_xor, xor_lt, xor_shr, xor_mod, xor_shifted}
use lib.Dec.{eqb, eqb→eq}
use lib.Pow.{pow_pos, split, shr_lt}
use Rattle.laws.proofs.Finite.{all, all-at}
use Rattle.laws.proofs.Xor.{xor_assoc, xor-left, xor-scaled}
use Rattle.scrambling.specs.Scrambling.{stage, shift, shifts}

-- the sum of four, of sums
four-sums : (a b c d e f g h : ℕ) → bit_xor (bit_xor (bit_xor a e) (bit_xor b f)) (bit_xor (bit_xor c g) (bit_xor d h)) ≡ bit_xor (bit_xor (bit_xor a b) (bit_xor c d)) (bit_xor (bit_xor e f) (bit_xor g h))
four-sums a b c d e f g h = simp (xor_assoc, xor-left)

two-sums : (a b c d : ℕ) → bit_xor (bit_xor a c) (bit_xor b d) ≡ bit_xor (bit_xor a b) (bit_xor c d)
two-sums a b c d = simp (xor_assoc, xor-left)

raised-sum : (k a b : ℕ) → bit_xor a b * 2 ^ k % 2 ^ 16 ≡ bit_xor (a * 2 ^ k % 2 ^ 16) (b * 2 ^ k % 2 ^ 16)
raised-sum k a b = ap (λ (x : ℕ). x % 2 ^ 16) (xor-scaled a b k) ∙ xor_mod (a * 2 ^ k) (b * 2 ^ k) 16

-- ---- one shift

fed_bit : ℕ → ℕ
fed_bit s = bit_xor (stage s 15) (bit_xor (stage s 14) (bit_xor (stage s 12) (stage s 3)))

fed-bit-lt : (s : ℕ) → fed_bit s < 2
unfolding fed_bit
fed-bit-lt s =
    let bit : (n : ℕ) → stage s n < 2 ^ 1 = λ n. mod-lt (s / 2 ^ n) (zero-lt-suc 1) in
    xor_lt 1 (stage s 15) (bit_xor (stage s 14) (bit_xor (stage s 12) (stage s 3))) (bit 15)
    (xor_lt 1 (stage s 14) (bit_xor (stage s 12) (stage s 3)) (bit 14) (xor_lt 1 (stage s 12) (stage s 3) (bit 12) (bit 3)))

fed-bit-sum : (a b : ℕ) → fed_bit (bit_xor a b) ≡ bit_xor (fed_bit a) (fed_bit b)
unfolding fed_bit
fed-bit-sum a b =
    let bit : (n : ℕ) → stage (bit_xor a b) n ≡ bit_xor (stage a n) (stage b n) = λ n. ap (λ (x : ℕ). x % 2) (xor_shr a b n) ∙ xor_mod (a / 2 ^ n) (b / 2 ^ n) 1 in
    rw (bit 15, bit 14, bit 12, bit 3) (simp (xor_assoc, xor-left))

shift-parts : (s : ℕ) → shift s ≡ bit_xor (s * 2 % 2 ^ 16) (fed_bit s)
unfolding shift fed_bit
shift-parts s =
    let even : s * 2 % 2 ^ 16 ≡ s % 2 ^ 15 * 2 = omega arith in
    sym (ap (λ (x : ℕ). bit_xor x (fed_bit s)) even ∙ xor_shifted (s % 2 ^ 15) 1 (fed_bit s) (fed-bit-lt s) ∙ ap (λ (x : ℕ). x + fed_bit s) (sym even))

shift-sum : (a b : ℕ) → shift (bit_xor a b) ≡ bit_xor (shift a) (shift b)
shift-sum a b =
    shift-parts (bit_xor a b)
    ∙ ap₂ bit_xor (raised-sum 1 a b) (fed-bit-sum a b)
    ∙ two-sums (a * 2 % 2 ^ 16) (fed_bit a) (b * 2 % 2 ^ 16) (fed_bit b)
    ∙ sym (ap₂ bit_xor (shift-parts a) (shift-parts b))

shifts-sum : (n a b : ℕ) → shifts n (bit_xor a b) ≡ bit_xor (shifts n a) (shifts n b)
unfolding shifts
shifts-sum zero a b = refl
shifts-sum (suc n) a b = ap shift (shifts-sum n a b) ∙ shift-sum (shifts n a) (shifts n b)

-- ---- eight

-- what eight shifts feed back, without the part of bit 3 where that bit was itself fed back
unfoldable pub fed_first : ℕ → ℕ
fed_first s = bit_xor (bit_xor (s / 2 ^ 8) (s / 2 ^ 7)) (bit_xor (s / 2 ^ 5) (s * 2 ^ 4 % 2 ^ 16)) % 2 ^ 8

unfoldable pub eight_shifts : ℕ → ℕ
eight_shifts s = bit_xor (s * 2 ^ 8 % 2 ^ 16) (bit_xor (fed_first s) (fed_first s / 2 ^ 4))

fed-first-sum : (a b : ℕ) → fed_first (bit_xor a b) ≡ bit_xor (fed_first a) (fed_first b)
unfolding fed_first
fed-first-sum a b =
    let at : (s : ℕ) → ℕ = λ s. bit_xor (bit_xor (s / 2 ^ 8) (s / 2 ^ 7)) (bit_xor (s / 2 ^ 5) (s * 2 ^ 4 % 2 ^ 16)) in
    ap (λ (x : ℕ). x % 2 ^ 8)
    (ap₂ bit_xor (ap₂ bit_xor (xor_shr a b 8) (xor_shr a b 7)) (ap₂ bit_xor (xor_shr a b 5) (raised-sum 4 a b))
    ∙ four-sums (a / 2 ^ 8) (a / 2 ^ 7) (a / 2 ^ 5) (a * 2 ^ 4 % 2 ^ 16) (b / 2 ^ 8) (b / 2 ^ 7) (b / 2 ^ 5) (b * 2 ^ 4 % 2 ^ 16))
    ∙ xor_mod (at a) (at b) 8

eight-shifts-sum : (a b : ℕ) → eight_shifts (bit_xor a b) ≡ bit_xor (eight_shifts a) (eight_shifts b)
unfolding eight_shifts
eight-shifts-sum a b =
    let back : (s : ℕ) → ℕ = λ s. bit_xor (fed_first s) (fed_first s / 2 ^ 4) in
    let backs : back (bit_xor a b) ≡ bit_xor (back a) (back b) =
    ap (λ (x : ℕ). bit_xor x (x / 2 ^ 4)) (fed-first-sum a b)
    ∙ ap (bit_xor (bit_xor (fed_first a) (fed_first b))) (xor_shr (fed_first a) (fed_first b) 4)
    ∙ two-sums (fed_first a) (fed_first a / 2 ^ 4) (fed_first b) (fed_first b / 2 ^ 4) in
    ap₂ bit_xor (raised-sum 8 a b) backs ∙ two-sums (a * 2 ^ 8 % 2 ^ 16) (back a) (b * 2 ^ 8 % 2 ^ 16) (back b)

low_byte : (s : ℕ) → s < 256 → eight_shifts s ≡ shifts 8 s
unfolding all shifts shift eight_shifts fed_first
low_byte s h = eqb→eq _ _ (all-at 256 (λ s. eqb (eight_shifts s) (shifts 8 s)) tt s h)

high_byte : (s : ℕ) → s < 256 → eight_shifts (s * 2 ^ 8) ≡ shifts 8 (s * 2 ^ 8)
unfolding all shifts shift eight_shifts fed_first
high_byte s h = eqb→eq _ _ (all-at 256 (λ s. eqb (eight_shifts (s * 2 ^ 8)) (shifts 8 (s * 2 ^ 8))) tt s h)

pub eight-shifts : (s : ℕ) → s < 2 ^ 16 → eight_shifts s ≡ shifts 8 s
eight-shifts s h =
    let high : ℕ = s / 2 ^ 8 in
    let low : ℕ = s % 2 ^ 8 in
    let parted : s ≡ bit_xor (high * 2 ^ 8) low = sym (xor_shifted high 8 low (mod-lt s (pow_pos 8)) ∙ split s 8) in
    ap eight_shifts parted
    ∙ eight-shifts-sum (high * 2 ^ 8) low
    ∙ ap₂ bit_xor (high_byte high (shr_lt 8 8 h)) (low_byte low (mod-lt s (pow_pos 8)))
    ∙ sym (ap (shifts 8) parted ∙ shifts-sum 8 (high * 2 ^ 8) low)
