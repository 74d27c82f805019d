-- Bits read through two bytes, and the step of the image reader. Assumes nothing.
use mathlib.Core.Path.{◌≡◌, sym, ap, ap₂, ◌∙◌}
use mathlib.Core.List.{List}
use Prim.Native.Nat.{ℕ, ◌+◌, ◌*◌, ◌-◌, ◌/◌, ◌%◌, ◌^◌, ◌<◌, ◌≤◌}
use native.Mathlib.Nat.{add-zero, mod-eq_of_lt}
use native.Mathlib.Decide.{dec_lt}
use native.Mathlib.Omega.{arith}
use borrow.Author.Tests.{le-leb, lt-leb, lt-ltb, le-ltb}
use lib.Pow.{shr-shr, high, field, mod-mod-pow, low}
use Rattle.laws.proofs.Finite.{all, equal-below}
use lib.ListN.{length, get_or}
use Rattle.bits.specs.Bits.{bits_of, three_at}
use Rattle.bits.specs.steps.LowBits.{LowBits}
use Rattle.bits.specs.Step.{step_at}
use Rattle.bits.proofs.Bits.{bit_in}

-- ---- two bytes as one number

module _ (first second : ℕ) (hs : second < 256) where
  low_bit : (t : ℕ) → t < 8 → (first * 256 + second) / 2 ^ t % 2 ≡ second / 2 ^ t % 2
  low_bit t h =
      let n : ℕ = first * 256 + second in
      let sum : 8 ≡ (7 - t) + (1 + t) = omega arith in
      let cut : (m : ℕ) → m % 2 ^ 8 % 2 ^ (1 + t) ≡ m % 2 ^ (1 + t) = λ m. ap (λ (k : ℕ). m % 2 ^ k % 2 ^ (1 + t)) sum ∙ mod-mod-pow m (7 - t) (1 + t) in
      let same : n % 2 ^ 8 ≡ second % 2 ^ 8 = low first 8 hs ∙ sym (mod-eq_of_lt hs) in
      sym (field n 1 t)
      ∙ ap (λ (m : ℕ). m / 2 ^ t) (sym (cut n) ∙ ap (λ (m : ℕ). m % 2 ^ (1 + t)) same ∙ cut second)
      ∙ field second 1 t

  high_bit : (j : ℕ) → j < 8 → (first * 256 + second) / 2 ^ (15 - j) % 2 ≡ first / 2 ^ (7 - j) % 2
  high_bit j h =
      let sum : 15 - j ≡ 8 + (7 - j) = omega arith in
      ap (λ (k : ℕ). (first * 256 + second) / 2 ^ k % 2) sum
      ∙ ap (λ (n : ℕ). n % 2) (sym (shr-shr (first * 256 + second) 8 (7 - j)) ∙ ap (λ (n : ℕ). n / 2 ^ (7 - j)) (high first 8 hs))

-- the byte of bit `at` and that of the last of n bits, shifted
module _ (l : List ℕ) (at n last : ℕ) (hn : n < 10) (e : last ≡ at / 8 + (at % 8 + n - 1) / 8) (fits : at + n ≤ 8 * length l) (byte : get_or l last 0 < 256) where
  abbrev both : ℕ
  both = get_or l (at / 8) 0 * 256 + get_or l last 0

  bit : (d : ℕ) → d < n → both / 2 ^ (15 - (at % 8 + d)) % 2 ≡ get_or (bits_of l) (at + d) 0
  bit d h =
      let j : ℕ = at % 8 + d in
      elim (dec_lt j 8) [
        | yes in-first ↦ high_bit (get_or l (at / 8) 0) (get_or l last 0) byte j in-first ∙ sym (bit_in l (at + d) (at / 8) j (omega arith) (omega arith) in-first)
        | no in-second ↦
            let place : 15 - j ≡ 7 - (j - 8) = omega arith in
            low_bit (get_or l (at / 8) 0) (get_or l last 0) byte (15 - j) (omega arith)
            ∙ ap (λ (k : ℕ). get_or l last 0 / 2 ^ k % 2) place
            ∙ sym (bit_in l (at + d) last (j - 8) (omega arith) (omega arith) (omega arith))
      ]

  pub bits-low : LowBits (bits_of l) at n (both / 2 ^ (16 - n - at % 8))
  bits-low = record { each = each }
    where
      each : (d : ℕ) → d < n → both / 2 ^ (16 - n - at % 8) / 2 ^ (n - 1 - d) % 2 ≡ get_or (bits_of l) (at + d) 0
      each d h =
          let sum : 16 - n - at % 8 + (n - 1 - d) ≡ 15 - (at % 8 + d) = omega arith in
          ap (λ (m : ℕ). m % 2) (shr-shr both (16 - n - at % 8) (n - 1 - d) ∙ ap (λ (k : ℕ). both / 2 ^ k) sum) ∙ bit d h

-- ---- three bits

-- the three low bits of a number
pub eight-sum : (y : ℕ) → y % 8 ≡ 4 * (y / 4 % 2) + 2 * (y / 2 % 2) + y % 2
unfolding all
eight-sum y =
    let z : ℕ = y % 8 in
    let one : z / 4 ≡ y / 4 % 2 = omega arith in
    let two : z / 2 % 2 ≡ y / 2 % 2 = omega arith in
    let three : z % 2 ≡ y % 2 = omega arith in
    equal-below 8 (λ z. z) (λ z. 4 * (z / 4) + 2 * (z / 2 % 2) + z % 2) tt z (omega arith)
    ∙ ap₂ (λ (u v : ℕ). 4 * u + 2 * v + z % 2) one two
    ∙ ap (λ (u : ℕ). 4 * (y / 4 % 2) + 2 * (y / 2 % 2) + u) three

pub three-low : (b : List ℕ) (p v : ℕ) → LowBits b p 3 v → v % 8 ≡ three_at b p
three-low b p v low =
    eight-sum v
    ∙ ap₂ (λ (x y : ℕ). 4 * x + 2 * y + v % 2) (low.each 0 (omega arith) ∙ ap (λ (q : ℕ). get_or b q 0) (add-zero p)) (low.each 1 (omega arith))
    ∙ ap (λ (z : ℕ). 4 * get_or b p 0 + 2 * get_or b (p + 1) 0 + z) (whole v ∙ low.each 2 (omega arith))
  where
    whole : (v : ℕ) → v % 2 ≡ v / 1 % 2
    whole v = omega arith

-- ---- the step

pub step-short : (b : List ℕ) (p : ℕ) → length b < p + 3 → record { value = 8; next = p } ≡ step_at b p
unfolding step_at
step-short b p h = rw (lt-leb (p + 3) (length b) h)

-- a step at which the next position fits
pub step-moves : (b : List ℕ) (p v : ℕ) → p + 3 ≤ length b → p + 3 < 2 ^ 64 → v ≡ three_at b p → record { value = v; next = p + 3 } ≡ step_at b p
unfolding step_at
step-moves b p v h fits e = rw (le-leb (p + 3) (length b) h, lt-ltb (p + 3) (2 ^ 64) fits, e)

pub step_stays : (b : List ℕ) (p v : ℕ) → p + 3 ≤ length b → 2 ^ 64 ≤ p + 3 → v ≡ three_at b p → record { value = v; next = p } ≡ step_at b p
unfolding step_at
step_stays b p v h far e = rw (le-leb (p + 3) (length b) h, le-ltb (p + 3) (2 ^ 64) far, e)
