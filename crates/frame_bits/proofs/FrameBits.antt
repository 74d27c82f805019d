-- Row and dc word, and the frame's bits, determine each other. Assumes nothing.
use mathlib.Core.Path.{◌≡◌, sym, ap, ◌∙◌, subst}
use mathlib.Core.List.{List}
use Prim.Native.Nat.{ℕ, ◌-◌, ◌/◌, ◌%◌, ◌^◌, ◌<◌}
use native.Mathlib.Nat.{mod-eq_of_lt, mod-lt, zero-lt-suc}
use native.Mathlib.Decide.{dec_lt, ℕ_discrete}
use native.Mathlib.Omega.{arith}
use borrow.Author.Tests.{eq-eqb, ne_eqb}
use lib.ListN.{length, get_or, get_or-eq_default}
use Rattle.laws.specs.Bytes.{Bytes}
use Rattle.laws.specs.Tabulate.{tabulate}
use Rattle.laws.proofs.Tabulate.{length-tabulate, get_d_tabulate, is-tabulate}
use Rattle.bits.specs.Bits.{Bits, bits_of, bits_of_number, number, packed}
use Rattle.bits.proofs.Bits.{length-bits, bits-bits}
use Rattle.bits.proofs.Number.{number-of-bits, number_lt, length-bits-of, get_d-bits-of, number_bit}
use Rattle.bits.proofs.Pack.{packed-bits, bits-packed, length-packed, bytes_packed}
use Rattle.frame_bits.specs.FrameBits.{group, position, frame_bit, frame_bits, data_place, dc_place, row_from, dc_from}

pub length-frame-bits : (row : List ℕ) (dc : ℕ) → length (frame_bits row dc) ≡ 1268
unfolding frame_bits
length-frame-bits row dc = length-tabulate 1268 (frame_bit row dc)

pub get_d-frame-bits : (row : List ℕ) (dc j : ℕ) → j < 1268 → get_or (frame_bits row dc) j 0 ≡ frame_bit row dc j
unfolding frame_bits
get_d-frame-bits row dc j h = get_d_tabulate 1268 (frame_bit row dc) j 0 h

-- ---- places

-- at its place stands a data bit, and it is that data bit
pub data-place-lt : (p : ℕ) → p < 1240 → data_place p < 1268
data-place-lt p h = omega arith

pub data-position : (p : ℕ) → position (data_place p) < 45
data-position p = omega arith

pub data-there : (p : ℕ) → data_place p - group (data_place p) ≡ p
data-there p = omega arith

pub dc-position : (i : ℕ) → position (dc_place i) ≡ 45
dc-position i = omega arith

pub dc-there : (i : ℕ) → group (dc_place i) ≡ i
dc-there i = omega arith

-- each of the 1,268 bits is a data bit or a dc-control bit, at its place
pub data-back : (j : ℕ) → position j < 45 → data_place (j - group j) ≡ j
data-back j h = omega arith

pub dc-back : (j : ℕ) → position j ≡ 45 → dc_place (group j) ≡ j
dc-back j h = omega arith

-- ---- the two kinds of bits

pub data-bit : (row : List ℕ) (dc j : ℕ) → (position j ≡ 45 → ⊥) → frame_bit row dc j ≡ get_or (bits_of row) (j - group j) 0
data-bit row dc j h = rw (ne_eqb (position j) 45 h)

pub dc-bit : (row : List ℕ) (dc j : ℕ) → position j ≡ 45 → frame_bit row dc j ≡ dc / 2 ^ (27 - group j) % 2
dc-bit row dc j h = rw (eq-eqb (position j) 45 h)

-- a bit of the frame is a bit
pub frame-bit-lt : (row : List ℕ) (dc j : ℕ) → frame_bit row dc j < 2
frame-bit-lt row dc j =
    elim (ℕ_discrete (position j) 45) [
      | yes h ↦ rw (dc-bit row dc j h) (mod-lt (dc / 2 ^ (27 - group j)) (zero-lt-suc 1))
      | no h ↦ rw (data-bit row dc j h) (bits-bits row (j - group j))
    ]

pub frame-bits-bits : (row : List ℕ) (dc : ℕ) → Bits (frame_bits row dc)
frame-bits-bits row dc j =
    elim (dec_lt j 1268) [
      | yes h ↦ rw (get_d-frame-bits row dc j h) (frame-bit-lt row dc j)
      | no h ↦ rw (get_or-eq_default (frame_bits row dc) 0 {n = j} (omega (arith, length-frame-bits row dc))) (omega arith)
    ]

-- ---- row and dc word come back

module _ (row : List ℕ) (dc : ℕ) where
  data-bits : length row ≡ 155 → tabulate 1240 (λ p. get_or (frame_bits row dc) (data_place p) 0) ≡ bits_of row
  data-bits size =
      sym (is-tabulate 0 1240 (λ p. get_or (frame_bits row dc) (data_place p) 0) (bits_of row) (omega (arith, length-bits row)) (λ p h. sym (at p h)))
    where
      at : (p : ℕ) → p < 1240 → get_or (frame_bits row dc) (data_place p) 0 ≡ get_or (bits_of row) p 0
      at p h =
          get_d-frame-bits row dc (data_place p) (data-place-lt p h)
          ∙ data-bit row dc (data_place p) (λ e. omega (arith, data-position p))
          ∙ ap (λ (q : ℕ). get_or (bits_of row) q 0) (data-there p)

  pub row_back : length row ≡ 155 → Bytes row → row_from (frame_bits row dc) ≡ row
  unfolding row_from
  row_back size bytes = ap packed (data-bits size) ∙ packed-bits row bytes

  dc-bits : tabulate 28 (λ i. get_or (frame_bits row dc) (dc_place i) 0) ≡ bits_of_number 28 dc
  dc-bits = sym (is-tabulate 0 28 (λ i. get_or (frame_bits row dc) (dc_place i) 0) (bits_of_number 28 dc) (length-bits-of 28 dc) (λ i h. sym (at i h)))
    where
      at : (i : ℕ) → i < 28 → get_or (frame_bits row dc) (dc_place i) 0 ≡ get_or (bits_of_number 28 dc) i 0
      at i h =
          get_d-frame-bits row dc (dc_place i) (omega arith)
          ∙ dc-bit row dc (dc_place i) (dc-position i)
          ∙ ap (λ (k : ℕ). dc / 2 ^ (27 - k) % 2) (dc-there i)
          ∙ sym (get_d-bits-of 28 dc i h)

  pub dc-word-back : dc < 2 ^ 28 → dc_from (frame_bits row dc) ≡ dc
  unfolding dc_from
  dc-word-back small = ap number dc-bits ∙ number-of-bits 28 dc ∙ mod-eq_of_lt small

-- two rows and dc words with the same bits are the same
pub frame-bits-inj : (row row' : List ℕ) (dc dc' : ℕ) → length row ≡ 155 → length row' ≡ 155 → Bytes row → Bytes row' → dc < 2 ^ 28 → dc' < 2 ^ 28
    → frame_bits row dc ≡ frame_bits row' dc' → (row ≡ row') × (dc ≡ dc')
frame-bits-inj row row' dc dc' size size' bytes bytes' small small' e = (
  sym (row_back row dc size bytes) ∙ ap row_from e ∙ row_back row' dc' size' bytes',
  sym (dc-word-back row dc small) ∙ ap dc_from e ∙ dc-word-back row' dc' small',
)

-- ---- bits come back

module _ (b : List ℕ) (bits : Bits b) where
  abbrev taken : List ℕ
  taken = tabulate 1240 (λ p. get_or b (data_place p) 0)

  abbrev control : List ℕ
  control = tabulate 28 (λ i. get_or b (dc_place i) 0)

  gathered-bits : (n : ℕ) (place : ℕ → ℕ) → Bits (tabulate n (λ k. get_or b (place k) 0))
  gathered-bits n place k =
      elim (dec_lt k n) [
        | yes h ↦ rw (get_d_tabulate n (λ k. get_or b (place k) 0) k 0 h) (bits (place k))
        | no h ↦ rw (get_or-eq_default (tabulate n (λ k. get_or b (place k) 0)) 0 {n = k} (omega (arith, length-tabulate n (λ k. get_or b (place k) 0)))) (omega arith)
      ]

  pub length-row : length (row_from b) ≡ 155
  unfolding row_from
  length-row = omega (arith, length-packed taken, length-tabulate 1240 (λ p. get_or b (data_place p) 0))

  pub bytes-row : Bytes (row_from b)
  unfolding row_from
  bytes-row = bytes_packed taken (gathered-bits 1240 data_place)

  pub dc-word-lt : dc_from b < 2 ^ 28
  unfolding dc_from
  dc-word-lt = subst (λ (n : ℕ). number control < 2 ^ n) (length-tabulate 28 (λ i. get_or b (dc_place i) 0)) (number_lt control (gathered-bits 28 dc_place))

  row-bits : bits_of (row_from b) ≡ taken
  unfolding row_from
  row-bits = bits-packed taken (gathered-bits 1240 data_place) (omega (arith, length-tabulate 1240 (λ p. get_or b (data_place p) 0)))

  dc-word-bit : (i : ℕ) → i < 28 → dc_from b / 2 ^ (27 - i) % 2 ≡ get_or b (dc_place i) 0
  unfolding dc_from
  dc-word-bit i h =
      let size = length-tabulate 28 (λ i. get_or b (dc_place i) 0) in
      sym (ap (λ (n : ℕ). number control / 2 ^ (n - 1 - i) % 2) size)
      ∙ number_bit control i (gathered-bits 28 dc_place) (omega (arith, size))
      ∙ get_d_tabulate 28 (λ i. get_or b (dc_place i) 0) i 0 h

  at_each : (j : ℕ) → j < 1268 → frame_bit (row_from b) (dc_from b) j ≡ get_or b j 0
  at_each j h =
      elim (ℕ_discrete (position j) 45) [
        | yes e ↦ dc-bit (row_from b) (dc_from b) j e ∙ dc-word-bit (group j) (omega arith) ∙ ap (λ (q : ℕ). get_or b q 0) (dc-back j e)
        | no e ↦
            data-bit (row_from b) (dc_from b) j e
            ∙ ap (λ (l : List ℕ). get_or l (j - group j) 0) row-bits
            ∙ get_d_tabulate 1240 (λ p. get_or b (data_place p) 0) (j - group j) 0 (omega arith)
            ∙ ap (λ (q : ℕ). get_or b q 0) (data-back j (omega arith))
      ]

  pub frame-bits-back : length b ≡ 1268 → frame_bits (row_from b) (dc_from b) ≡ b
  unfolding frame_bits
  frame-bits-back size = sym (is-tabulate 0 1268 (frame_bit (row_from b) (dc_from b)) b size (λ j h. sym (at_each j h)))
