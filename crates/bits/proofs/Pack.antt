-- Packing bits into bytes and taking bytes apart undo each other. Assumes nothing.
use mathlib.Core.Path.{◌≡◌, sym, ap, subst, ◌∙◌}
use mathlib.Core.List.{List}
use Prim.Native.Nat.{ℕ, ◌+◌, ◌*◌, ◌-◌, ◌/◌, ◌%◌, ◌^◌, ◌<◌, ◌≤◌}
use native.Mathlib.Nat.{mod-eq_of_lt}
use native.Mathlib.Decide.{dec_lt}
use native.Mathlib.Omega.{arith}
use lib.ListN.{length, get_or, take, drop, length-drop, get_or-eq_default}
use lib.Seq.{ext_get_or, get_or-take, get_or-drop, length-take-le}
use Rattle.laws.specs.Bytes.{Bytes}
use Rattle.laws.proofs.Bytes.{bytes-tabulate}
use Rattle.laws.proofs.Tabulate.{length-tabulate, get_d_tabulate, is-tabulate}
use Rattle.bits.specs.Bits.{Bits, bits_of, bits_of_number, number, packed}
use Rattle.bits.proofs.Bits.{length-bits, bit_in}
use Rattle.bits.proofs.Number.{length-bits-of, get_d-bits-of, number-of-bits, number_lt, number_bit}

-- bits 8 k to 8 k + 7
abbrev eight : List ℕ → ℕ → List ℕ
eight b k = take 8 (drop (8 * k) b)

module _ (b : List ℕ) (k : ℕ) (h : 8 * k + 8 ≤ length b) where
  length-eight : length (eight b k) ≡ 8
  length-eight = length-take-le 8 (drop (8 * k) b) (omega (arith, length-drop (8 * k) b))

  get_d-eight : (j : ℕ) → j < 8 → get_or (eight b k) j 0 ≡ get_or b (8 * k + j) 0
  get_d-eight j hj = get_or-take 8 (drop (8 * k) b) j 0 hj ∙ get_or-drop (8 * k) b j 0

  eight-bits : Bits b → Bits (eight b k)
  eight-bits bits j =
      elim (dec_lt j 8) [
        | yes l ↦ rw (get_d-eight j l) (bits (8 * k + j))
        | no l ↦ rw (get_or-eq_default (eight b k) 0 {n = j} (omega (arith, length-eight))) (omega arith)
      ]

-- ---- bytes, their bits, the bytes again

byte-bits : (l : List ℕ) (k : ℕ) → k < length l → eight (bits_of l) k ≡ bits_of_number 8 (get_or l k 0)
byte-bits l k h =
    ext_get_or 0 (eight (bits_of l) k) (bits_of_number 8 x) (length-eight (bits_of l) k fits ∙ sym (length-bits-of 8 x))
    (λ j hj. bit j (omega (arith, length-eight (bits_of l) k fits)))
  where
    x : ℕ
    x = get_or l k 0

    fits : 8 * k + 8 ≤ length (bits_of l)
    fits = omega (arith, length-bits l)

    bit : (j : ℕ) → j < 8 → get_or (eight (bits_of l) k) j 0 ≡ get_or (bits_of_number 8 x) j 0
    bit j hj = get_d-eight (bits_of l) k fits j hj ∙ bit_in l (8 * k + j) k j (omega arith) h hj ∙ sym (get_d-bits-of 8 x j hj)

pub packed-bits : (l : List ℕ) → Bytes l → packed (bits_of l) ≡ l
unfolding packed
packed-bits l bytes =
    sym (is-tabulate 0 (length (bits_of l) / 8) (λ k. number (eight (bits_of l) k)) l (omega (arith, length-bits l))
    (λ k h. sym (byte k (omega (arith, length-bits l)))))
  where
    byte : (k : ℕ) → k < length l → number (eight (bits_of l) k) ≡ get_or l k 0
    byte k h = ap number (byte-bits l k h) ∙ number-of-bits 8 (get_or l k 0) ∙ mod-eq_of_lt (bytes k)

-- ---- bits, their bytes, the bits again

pub length-packed : (b : List ℕ) → length (packed b) ≡ length b / 8
unfolding packed
length-packed b = length-tabulate (length b / 8) (λ k. number (eight b k))

pub get_d-packed : (b : List ℕ) (k : ℕ) → k < length b / 8 → get_or (packed b) k 0 ≡ number (eight b k)
unfolding packed
get_d-packed b k h = get_d_tabulate (length b / 8) (λ k. number (eight b k)) k 0 h

pub bytes_packed : (b : List ℕ) → Bits b → Bytes (packed b)
unfolding packed
bytes_packed b bits = bytes-tabulate (length b / 8) (λ k. number (eight b k)) (λ k h. byte k (omega arith))
  where
    byte : (k : ℕ) → 8 * k + 8 ≤ length b → number (eight b k) < 256
    byte k h = subst (λ (n : ℕ). number (eight b k) < 2 ^ n) (length-eight b k h) (number_lt (eight b k) (eight-bits b k h bits))

pub bits-packed : (b : List ℕ) → Bits b → length b % 8 ≡ 0 → bits_of (packed b) ≡ b
bits-packed b bits whole =
    ext_get_or 0 (bits_of (packed b)) b (omega (arith, length-bits (packed b), length-packed b)) (λ p h. at p (omega (arith, length-bits (packed b), length-packed b)))
  where
    at : (p : ℕ) → p < length b → get_or (bits_of (packed b)) p 0 ≡ get_or b p 0
    at p h =
        let k : ℕ = p / 8 in
        let j : ℕ = p % 8 in
        let fits : 8 * k + 8 ≤ length b = omega arith in
        let size = length-eight b k fits in
        bit_in (packed b) p k j (omega arith) (omega (arith, length-packed b)) (omega arith)
        ∙ ap (λ (x : ℕ). x / 2 ^ (7 - j) % 2) (get_d-packed b k (omega arith))
        ∙ sym (ap (λ (n : ℕ). number (eight b k) / 2 ^ (n - 1 - j) % 2) size)
        ∙ number_bit (eight b k) j (eight-bits b k fits bits) (omega (arith, size))
        ∙ get_d-eight b k fits j (omega arith)
        ∙ ap (λ (q : ℕ). get_or b q 0) (omega arith)
