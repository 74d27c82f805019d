-- The row, five bytes a step, and the dc word, bit by bit, out of a frame's words. Assumes nothing.
use mathlib.Core.Bool.{Bool, true}
use mathlib.Core.Path.{◌≡◌, refl, sym, ap, ap₂, subst, ◌∙◌}
use mathlib.Core.List.{List, [], ◌∷◌, ◌++◌}
use Prim.Native.Nat.{ℕ, zero, suc, ◌+◌, ◌*◌, ◌-◌, ◌/◌, ◌%◌, ◌^◌, ◌<◌, ◌≤◌}
use native.Mathlib.Nat.{mul_assoc, pow-suc, mod-lt, zero-lt-suc}
use native.Mathlib.Decide.{dec_lt}
use native.Mathlib.Numerals.{add-one}
use native.Mathlib.Omega.{arith}
use lib.Dec.{T, ltb, ltb→lt}
use lib.ListN.{length, get_or, set, take, drop, length-append, length-drop, get_or-eq_default}
use lib.Seq.{get_or-take, get_or-drop, length-take-le}
use lib.Pow.{pow_mono, shr-shr}
use Rattle.laws.specs.Tabulate.{tabulate}
use Rattle.laws.proofs.Finite.{both, both_left, both_right}
use Rattle.laws.proofs.Tabulate.{length-tabulate, get_d_tabulate, is-tabulate}
use Rattle.laws.proofs.Fill.{Upto, upto-more, upto_all}
use Rattle.bits.specs.Bits.{Bits, number, bits_of_number}
use Rattle.bits.proofs.Number.{length-bits-of, get_d-bits-of, number-of-bits}
use Rattle.bits.proofs.Pack.{get_d-packed}
use Rattle.modulation.specs.steps.Words as words
use Rattle.frame_bits.specs.FrameBits.{data_place, dc_place, row_from, dc_from}
use Rattle.frame_bits.specs.steps.Slices.{FiveBytes}
use Rattle.frame_bits.proofs.FrameBits.{length-row}
use Rattle.frame_bits.proofs.Window.{in-first, in-second}

-- ---- numbers made of bits, one by one

number-snoc : (l : List ℕ) (x : ℕ) → number (l ++ x ∷ []) ≡ 2 * number l + x
unfolding number
number-snoc [] x = omega arith
number-snoc (b ∷ l) x =
    ap (λ (n : ℕ). b * 2 ^ n + number (l ++ x ∷ [])) (length-append l (x ∷ []) ∙ add-one (length l))
    ∙ omega (arith, number-snoc l x, ap (λ (p : ℕ). b * p) (pow-suc 2 (length l)) ∙ sym (mul_assoc b (2 ^ length l) 2))

tabulate-snoc : (n : ℕ) (f : ℕ → ℕ) → tabulate (suc n) f ≡ tabulate n f ++ f n ∷ []
unfolding tabulate
tabulate-snoc zero f = refl
tabulate-snoc (suc n) f = ap (λ (l : List ℕ). f 0 ∷ l) (tabulate-snoc n (λ k. f (suc k)))

-- v is the number of the first i of n bits f
pub record NumberTo (f : ℕ → ℕ) (n i v : ℕ) : Type 0 where
  pub within : i ≤ n
  pub small : v < 2 ^ i
  pub is : v ≡ number (tabulate i f)

module _ {f : ℕ → ℕ} {n : ℕ} where
  pub number-none : NumberTo f n 0 0
  unfolding tabulate number
  number-none = record { within = omega arith; small = omega arith; is = refl }

  module _ {i v : ℕ} (u : NumberTo f n i v) where
    pub number_more : {x : ℕ} → i < n → (x ≡ f i) × (x < 2) → NumberTo f n (i + 1) (2 * v + x)
    number_more {x} h e =
        record {
          within = omega arith;
          small = omega (arith, ap (λ (k : ℕ). 2 ^ k) (add-one i) ∙ pow-suc 2 i, u.small, e.1);
          is =
              ap₂ (λ (a b : ℕ). 2 * a + b) u.is e.0
              ∙ sym (ap (λ (k : ℕ). number (tabulate k f)) (add-one i) ∙ ap number (tabulate-snoc i f) ∙ number-snoc (tabulate i f) (f i));
        }

    pub number-all : n ≤ i → v ≡ number (tabulate n f)
    number-all h = let e : i ≡ n = omega (arith, u.within) in u.is ∙ ap (λ (k : ℕ). number (tabulate k f)) e

    -- there is room for one bit more below a power of two
    pub number-room : (k : ℕ) → i ≤ k → 2 * v + 1 < 2 ^ suc k
    number-room k h = omega (arith, pow-suc 2 k, pow_mono {i = i} {j = k} h, u.small)

-- ---- the row and the dc word

-- bit i of byte k of the row, and bit i of the dc word, in a frame's bits b
unfoldable pub row_bit : List ℕ → ℕ → ℕ → ℕ
row_bit b k i = get_or b (data_place (8 * k + i)) 0

unfoldable pub dc_bit : List ℕ → ℕ → ℕ
dc_bit b i = get_or b (dc_place i) 0

pub row-byte : (b : List ℕ) (k v : ℕ) → k < 155 → v ≡ number (tabulate 8 (row_bit b k)) → v ≡ get_or (row_from b) k 0
unfolding row_from row_bit
row-byte b k v h e = e ∙ sym (get_d-packed all k (omega (arith, size)) ∙ ap number eight)
  where
    all : List ℕ
    all = tabulate 1240 (λ p. get_or b (data_place p) 0)

    size : length all ≡ 1240
    size = length-tabulate 1240 (λ p. get_or b (data_place p) 0)

    eight : take 8 (drop (8 * k) all) ≡ tabulate 8 (row_bit b k)
    eight =
        is-tabulate 0 8 (row_bit b k) (take 8 (drop (8 * k) all)) (length-take-le 8 (drop (8 * k) all) (omega (arith, length-drop (8 * k) all, size)))
        (λ i hi.
        get_or-take 8 (drop (8 * k) all) i 0 hi
        ∙ get_or-drop (8 * k) all i 0
        ∙ get_d_tabulate 1240 (λ p. get_or b (data_place p) 0) (8 * k + i) 0 (omega arith))

pub dc-word : (b : List ℕ) {v : ℕ} → v ≡ number (tabulate 28 (dc_bit b)) → v ≡ dc_from b
unfolding dc_from dc_bit
dc-word b e = e

-- ---- out of words

-- bit j of the words
pub word-bit : (ws : List ℕ) (j : ℕ) → j < 1268 → get_or (words.bits_in ws) j 0 ≡ get_or ws ((j + 20) / 46) 0 / 2 ^ (45 - (j + 20) % 46) % 2
unfolding words.bits_in
word-bit ws j h = get_d_tabulate 1268 (λ j. get_or ws ((j + 20) / 46) 0 / 2 ^ (45 - (j + 20) % 46) % 2) j 0 h

pub length-words-bits : (ws : List ℕ) → length (words.bits_in ws) ≡ 1268
unfolding words.bits_in
length-words-bits ws = length-tabulate 1268 (λ j. get_or ws ((j + 20) / 46) 0 / 2 ^ (45 - (j + 20) % 46) % 2)

pub words-bits-bits : (ws : List ℕ) → Bits (words.bits_in ws)
words-bits-bits ws j =
    elim (dec_lt j 1268) [
      | yes h ↦ subst (λ (n : ℕ). n < 2) (sym (word-bit ws j h)) (mod-lt (get_or ws ((j + 20) / 46) 0 / 2 ^ (45 - (j + 20) % 46)) (zero-lt-suc 1))
      | no h ↦ subst (λ (n : ℕ). n < 2) (sym (get_or-eq_default (words.bits_in ws) 0 {n = j} (omega (arith, length-words-bits ws)))) (omega arith)
    ]

-- the dc-control bit of word i
pub dc-of-word : (ws : List ℕ) (i : ℕ) → i < 28 → (get_or ws i 0 % 2 ≡ dc_bit (words.bits_in ws) i) × (get_or ws i 0 % 2 < 2)
unfolding dc_bit
dc-of-word ws i h =
    let word : (46 * i + 25 + 20) / 46 ≡ i = omega arith in
    let place : 45 - (46 * i + 25 + 20) % 46 ≡ 0 = omega arith in
    (sym (word-bit ws (46 * i + 25) (omega arith) ∙ ap₂ (λ (k t : ℕ). get_or ws k 0 / 2 ^ t % 2) word place ∙ whole (get_or ws i 0)), mod-lt (get_or ws i 0) (zero-lt-suc 1))
  where
    whole : (n : ℕ) → n / 1 % 2 ≡ n % 2
    whole n = omega arith

abbrev fit : List ℕ → Bool
fit [] = true
fit (x ∷ l) = both (ltb x 70368744177664) (fit l)

-- words that a test finds fit
pub small-words : {l : List ℕ} → length l ≡ 29 → T (fit l) → words.Words l
small-words {l} size t = record { size = size; below = below l t }
  where
    below : (l : List ℕ) → T (fit l) → (i : ℕ) → get_or l i 0 < 70368744177664
    below [] t i = omega arith
    below (x ∷ l) t zero = ltb→lt x 70368744177664 (both_left (ltb x 70368744177664) (fit l) t)
    below (x ∷ l) t (suc i) = below l (both_right (ltb x 70368744177664) (fit l) t) i

-- ---- five bytes of the row through two words

module _ (ws : List ℕ) (m : ℕ) (hm : m < 31) (h : (i : ℕ) → get_or ws i 0 < 70368744177664) where
  abbrev i : ℕ
  i = (40 * m + 20) / 45

  abbrev off : ℕ
  off = (40 * m + 20) % 45

  abbrev a : ℕ
  a = get_or ws ((40 * m + 20) / 45) 0 / 2

  abbrev b : ℕ
  b = get_or ws ((40 * m + 20) / 45 + 1) 0 / 2

  small : b < 2 ^ 45
  small = omega (arith, h (i + 1))

  -- bit t of word k, without its dc-control bit
  row-bit : (u k t : ℕ) → u < 40 → (40 * m + u + 20) / 45 ≡ k → (40 * m + u + 20) % 45 ≡ t → get_or ws k 0 / 2 / 2 ^ (44 - t) % 2 ≡ get_or (words.bits_in ws) (data_place (40 * m + u)) 0
  row-bit u k t hu ek et =
      let j : ℕ = data_place (40 * m + u) in
      let word : (j + 20) / 46 ≡ k = omega arith in
      let place : (j + 20) % 46 ≡ t = omega arith in
      let one : 1 + (44 - t) ≡ 45 - t = omega arith in
      ap (λ (n : ℕ). n % 2) (shr-shr (get_or ws k 0) 1 (44 - t) ∙ ap (λ (n : ℕ). get_or ws k 0 / 2 ^ n) one)
      ∙ sym (word-bit ws j (omega arith) ∙ ap₂ (λ (n m : ℕ). get_or ws n 0 / 2 ^ (45 - m) % 2) word place)

  module _ {v : ℕ} (is : v ≡ (a * 2 ^ off % 2 ^ 64 % 2 ^ 45 + b / 2 ^ (45 - off)) / 32) where
    -- bit u of the forty
    five-bit : (u : ℕ) → u < 40 → v / 2 ^ (39 - u) % 2 ≡ get_or (words.bits_in ws) (data_place (40 * m + u)) 0
    five-bit u hu =
        let within : off < 45 = omega arith in
        elim (dec_lt (off + u) 45) [
          | yes h ↦ in-first 45 a b off small within (omega arith) 40 (omega arith) is u hu h ∙ row-bit u i (off + u) hu (omega arith) (omega arith)
          | no h ↦ in-second 45 a b off small within (omega arith) 40 (omega arith) is u hu (omega arith) ∙ row-bit u (i + 1) (off + u - 45) hu (omega arith) (omega arith)
        ]

    pub five-bytes : FiveBytes (row_from (words.bits_in ws)) m v
    unfolding row_bit
    five-bytes = record { each = λ t ht. (row-byte (words.bits_in ws) (5 * m + t) (v / 2 ^ (32 - 8 * t) % 256) (omega arith) (sym (number-of-bits 8 (v / 2 ^ (32 - 8 * t))) ∙ ap number (eight t ht))) }
      where
        eight : (t : ℕ) → t < 5 → bits_of_number 8 (v / 2 ^ (32 - 8 * t)) ≡ tabulate 8 (row_bit (words.bits_in ws) (5 * m + t))
        eight t ht = is-tabulate 0 8 (row_bit (words.bits_in ws) (5 * m + t)) (bits_of_number 8 (v / 2 ^ (32 - 8 * t))) (length-bits-of 8 (v / 2 ^ (32 - 8 * t))) (at t ht)
          where
            at : (t : ℕ) → t < 5 → (j : ℕ) → j < 8 → get_or (bits_of_number 8 (v / 2 ^ (32 - 8 * t))) j 0 ≡ row_bit (words.bits_in ws) (5 * m + t) j
            at t ht j hj =
                let sum : 32 - 8 * t + (8 - 1 - j) ≡ 39 - (8 * t + j) = omega arith in
                let place : 40 * m + (8 * t + j) ≡ 8 * (5 * m + t) + j = omega arith in
                get_d-bits-of 8 (v / 2 ^ (32 - 8 * t)) j hj
                ∙ ap (λ (n : ℕ). n % 2) (shr-shr v (32 - 8 * t) (8 - 1 - j) ∙ ap (λ (n : ℕ). v / 2 ^ n) sum)
                ∙ five-bit (8 * t + j) (omega arith)
                ∙ ap (λ (p : ℕ). get_or (words.bits_in ws) (data_place p) 0) place

-- five bytes more of the row
pub row-five : {row l : List ℕ} {m v : ℕ} → m < 31 → FiveBytes row m v → Upto 0 (λ k. get_or row k 0) 155 (5 * m) l
    → Upto 0 (λ k. get_or row k 0) 155 (5 * (m + 1))
    (set (set (set (set (set l (5 * m) (v / 4294967296 % 256)) (5 * m + 1) (v / 16777216 % 256)) (5 * m + 2) (v / 65536 % 256)) (5 * m + 3) (v / 256 % 256)) (5 * m + 4) (v % 256))
row-five {row} {l} {m} {v} h five u =
    next (5 * m + 4) (5 * (m + 1)) (omega arith) (omega arith) (whole v ∙ five.each 4 (omega arith))
    (next (5 * m + 3) (5 * m + 4) (omega arith) (omega arith) (five.each 3 (omega arith))
    (next (5 * m + 2) (5 * m + 3) (omega arith) (omega arith) (five.each 2 (omega arith))
    (next (5 * m + 1) (5 * m + 2) (omega arith) (omega arith) (five.each 1 (omega arith))
    (next (5 * m) (5 * m + 1) (omega arith) (omega arith) (five.each 0 (omega arith) ∙ ap (λ (k : ℕ). get_or row k 0) (front m)) u))))
  where
    next : (i j : ℕ) {l : List ℕ} {x : ℕ} → j ≡ i + 1 → i < 155 → x ≡ get_or row i 0 → Upto 0 (λ k. get_or row k 0) 155 i l → Upto 0 (λ k. get_or row k 0) 155 j (set l i x)
    next i j {l} {x} e h is u = subst (λ (n : ℕ). Upto 0 (λ k. get_or row k 0) 155 n (set l i x)) (sym e) (upto-more h is u)

    whole : (v : ℕ) → v % 256 ≡ v / 1 % 256
    whole v = omega arith

    front : (m : ℕ) → 5 * m + 0 ≡ 5 * m
    front m = omega arith

pub row-all : (b : List ℕ) {row : List ℕ} {m : ℕ} → Bits b → 31 ≤ m → Upto 0 (λ k. get_or (row_from b) k 0) 155 (5 * m) row → row ≡ row_from b
row-all b bits h u = upto_all (omega arith) u ∙ sym (is-tabulate 0 155 (λ k. get_or (row_from b) k 0) (row_from b) (length-row b bits) (λ k _. refl))
