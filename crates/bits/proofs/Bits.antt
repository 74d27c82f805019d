-- The bits of a list, one by one. Assumes nothing.
use mathlib.Core.Path.{◌≡◌, ap, ◌∙◌}
use mathlib.Core.List.{List, [], ◌∷◌, ◌++◌}
use Prim.Native.Nat.{ℕ, zero, suc, ◌+◌, ◌*◌, ◌-◌, ◌/◌, ◌%◌, ◌^◌, ◌<◌, ◌≤◌}
use native.Mathlib.Nat.{mod-lt, zero-lt-suc}
use native.Mathlib.Decide.{dec_lt}
use native.Mathlib.Omega.{arith}
use lib.ListN.{length, get_or, get_or-eq_default}
use Rattle.laws.proofs.Tabulate.{length-tabulate, get_d_tabulate}
use Rattle.bits.specs.Bits.{Bits, bit_at, bits_of}

pub length-bits : (l : List ℕ) → length (bits_of l) ≡ 8 * length l
unfolding bits_of
length-bits l = length-tabulate (8 * length l) (bit_at l)

pub get_d_bits : (l : List ℕ) (p : ℕ) → p < 8 * length l → get_or (bits_of l) p 0 ≡ bit_at l p
unfolding bits_of
get_d_bits l p h = get_d_tabulate (8 * length l) (bit_at l) p 0 h

-- no bits past the end
pub get_d_past : (l : List ℕ) (p : ℕ) → 8 * length l ≤ p → get_or (bits_of l) p 0 ≡ 0
get_d_past l p h = get_or-eq_default (bits_of l) 0 {n = p} (omega (arith, length-bits l))

-- bit p is bit j of byte k
pub bit_in : (l : List ℕ) (p k j : ℕ) → p ≡ 8 * k + j → k < length l → j < 8 → get_or (bits_of l) p 0 ≡ get_or l k 0 / 2 ^ (7 - j) % 2
bit_in l p k j e h hj =
    let byte : p / 8 ≡ k = omega arith in
    let place : p % 8 ≡ j = omega arith in
    get_d_bits l p (omega arith)
    ∙ ap (λ (q : ℕ). get_or l q 0 / 2 ^ (7 - p % 8) % 2) byte
    ∙ ap (λ (q : ℕ). get_or l k 0 / 2 ^ (7 - q) % 2) place

pub bits-bits : (l : List ℕ) → Bits (bits_of l)
bits-bits l p =
    elim (dec_lt p (8 * length l)) [
      | yes h ↦ rw (get_d_bits l p h) (mod-lt (get_or l (p / 8) 0 / 2 ^ (7 - p % 8)) (zero-lt-suc 1))
      | no h ↦ rw (get_d_past l p (omega arith)) (omega arith)
    ]

-- bits behind bits
pub bits-then : (l m : List ℕ) → Bits l → Bits m → Bits (l ++ m)
bits-then [] m bl bm i = bm i
bits-then (x ∷ l) m bl bm zero = bl 0
bits-then (x ∷ l) m bl bm (suc i) = bits-then l m (λ j. bl (suc j)) bm i
