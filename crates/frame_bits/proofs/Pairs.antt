-- The pairs of a frame, from words of its bits. Assumes nothing.
use mathlib.Core.List.{List, [], ◌∷◌, ◌++◌}
use mathlib.Core.Path.{◌≡◌, refl, sym, ap, ap₂, ◌∙◌}
use Prim.Native.Nat.{ℕ, zero, suc, ◌+◌, ◌*◌, ◌/◌, ◌%◌, ◌<◌, ◌≤◌}
use native.Mathlib.Omega.{arith}
use lib.ListN.{length, get_or, take, drop, length-drop}
use lib.Seq.{ext_get_or, get_or-take, get_or-drop, length-take-le, take_all}
use Rattle.laws.specs.Tabulate.{tabulate}
use Rattle.bits.specs.Bits.{bits_of_number}
use Rattle.bits.proofs.Number.{length-bits-of, get_d-bits-of}
use Rattle.modulation.specs.Modulation.{Two}
use Rattle.modulation.specs.Bits.{two, pairs}
use Rattle.modulation.proofs.Bits.{pairs-take, pairs-drop}
use Rattle.modulation.specs.steps.Pairs.{two_of, nibble_pairs, byte_pairs}
use Rattle.frame_bits.specs.steps.Words.{Word, LastTwo}

-- ---- pairs of a number

four : (q : ℕ) → q < 4 → two (q / 2 % 2) (q % 2) ≡ two_of q
four zero h = refl
four (suc zero) h = refl
four (suc (suc zero)) h = refl
four (suc (suc (suc zero))) h = refl
four (suc (suc (suc (suc q)))) h = absurd (omega arith)

pair_of : (x y q : ℕ) → q < 4 → x ≡ q / 2 % 2 → y ≡ q % 2 → two x y ≡ two_of q
pair_of x y q h ex ey = ap₂ two ex ey ∙ four q h

nibble-pairs : (x : ℕ) → x < 16 → pairs (bits_of_number 4 x) ≡ nibble_pairs x
unfolding bits_of_number tabulate
nibble-pairs x h =
    ap₂ ◌∷◌ (pair_of (x / 8 % 2) (x / 4 % 2) (x / 4) (omega arith) (omega arith) (omega arith))
    (ap (λ (d : Two). d ∷ []) (pair_of (x / 2 % 2) (x / 1 % 2) (x % 4) (omega arith) (omega arith) (omega arith)))

word-pairs : (w : ℕ) → w < 65536 → pairs (bits_of_number 16 w) ≡ byte_pairs (w / 256) ++ byte_pairs (w % 256)
unfolding bits_of_number tabulate
word-pairs w h =
    ap₂ ◌∷◌ (pair_of (w / 32768 % 2) (w / 16384 % 2) (w / 256 / 16 / 4) (omega arith) (omega arith) (omega arith))
    (ap₂ ◌∷◌ (pair_of (w / 8192 % 2) (w / 4096 % 2) (w / 256 / 16 % 4) (omega arith) (omega arith) (omega arith))
    (ap₂ ◌∷◌ (pair_of (w / 2048 % 2) (w / 1024 % 2) (w / 256 % 16 / 4) (omega arith) (omega arith) (omega arith))
    (ap₂ ◌∷◌ (pair_of (w / 512 % 2) (w / 256 % 2) (w / 256 % 16 % 4) (omega arith) (omega arith) (omega arith))
    (ap₂ ◌∷◌ (pair_of (w / 128 % 2) (w / 64 % 2) (w % 256 / 16 / 4) (omega arith) (omega arith) (omega arith))
    (ap₂ ◌∷◌ (pair_of (w / 32 % 2) (w / 16 % 2) (w % 256 / 16 % 4) (omega arith) (omega arith) (omega arith))
    (ap₂ ◌∷◌ (pair_of (w / 8 % 2) (w / 4 % 2) (w % 256 % 16 / 4) (omega arith) (omega arith) (omega arith))
    (ap (λ (d : Two). d ∷ []) (pair_of (w / 2 % 2) (w / 1 % 2) (w % 256 % 16 % 4) (omega arith) (omega arith) (omega arith)))))))))

-- ---- parts of a frame's bits

module _ (b : List ℕ) (size : length b ≡ 1268) where
  -- the n bits from m on, as a number
  part : (n m w : ℕ) → m + n ≤ 1268 → Word n (λ j. get_or b j 0) m w → take n (drop m b) ≡ bits_of_number n w
  part n m w h u =
      let long : length (take n (drop m b)) ≡ n = length-take-le n (drop m b) (omega (arith, length-drop m b, size)) in
      ext_get_or 0 (take n (drop m b)) (bits_of_number n w) (long ∙ sym (length-bits-of n w))
      (λ j below.
      let hj : j < n = omega (arith, long) in
      get_or-take n (drop m b) j 0 hj
      ∙ get_or-drop m b j 0
      ∙ sym (u.bit j hj)
      ∙ sym (get_d-bits-of n w j hj))

  pub eight-pairs : (k m w : ℕ) → k < 79 → m ≡ 16 * k → Word 16 (λ j. get_or b j 0) m w → take 8 (drop (8 * k) (pairs b)) ≡ byte_pairs (w / 256) ++ byte_pairs (w % 256)
  eight-pairs k m w h e u =
      let place : 2 * (8 * k) ≡ m = omega arith in
      ap (take 8) (pairs-drop (8 * k) b)
      ∙ pairs-take 8 (drop (2 * (8 * k)) b)
      ∙ ap (λ (n : ℕ). pairs (take 16 (drop n b))) place
      ∙ ap pairs (part 16 m w (omega arith) u)
      ∙ word-pairs w u.small

  pub last-pairs : (x : ℕ) → Word 4 (λ j. get_or b j 0) 1264 x → LastTwo (pairs b) x
  last-pairs x u =
      let all : drop 1264 b ≡ take 4 (drop 1264 b) = sym (take_all 4 (drop 1264 b) (omega (arith, length-drop 1264 b, size))) in
      record {
        small = u.small;
        pairs-are = pairs-drop 632 b ∙ ap pairs (all ∙ part 4 1264 x (omega arith) u) ∙ nibble-pairs x u.small;
      }
