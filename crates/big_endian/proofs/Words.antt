-- A word and its four bytes give each other, the word is the number that their bits make, and combined words have combined bytes; so have
-- double words, of which the eight bytes are those of two words. Assumes nothing.
use mathlib.Core.Path.{◌≡◌, refl, sym, ap, ap₂, ◌∙◌}
use mathlib.Core.List.{List, [], ◌∷◌, ◌++◌}
use Prim.Native.Nat.{ℕ, zero, suc, ◌+◌, ◌*◌, ◌/◌, ◌%◌, ◌^◌, ◌<◌, ◌≤◌}
use native.Mathlib.Nat.{add_comm, mod-lt, mod-eq_of_lt, zero-lt-suc}
use native.Mathlib.Omega.{arith}
use lib.Arith.{digits_mod}
use lib.Bits.{bit_xor, xor_shr, xor_mod}
use lib.ListN.{length, get_or, take, drop}
use lib.Pow.{pow_pos, split, high, field, mod-mod-pow, shr_lt, shr-shr, shr_mod}
use lib.Seq.{drop-cons, take-add, drop-drop}
use Rattle.laws.specs.Bytes.{Bytes}
use Rattle.laws.specs.Combined.{combined}
use Rattle.bits.specs.Bits.{bits_of, number}
use Rattle.bits.proofs.Concat.{number-bytes, number-byte}
use Rattle.big_endian.specs.Words.{word_of, word_at, four_bytes, eight_bytes}

-- ---- four bytes

module _ (a b c d : ℕ) (ha : a < 256) (hb : b < 256) (hc : c < 256) (hd : d < 256) where
  pub four-bytes-back : four_bytes (word_of a b c d) ≡ a ∷ b ∷ c ∷ d ∷ []
  four-bytes-back =
      let n : ℕ = word_of a b c d in
      let one : n / 2 ^ 24 ≡ a = omega arith in
      let two : n / 2 ^ 16 ≡ a * 256 + b = omega arith in
      let three : n / 2 ^ 8 ≡ (a * 256 + b) * 256 + c = omega arith in
      let four : n ≡ ((a * 256 + b) * 256 + c) * 256 + d = omega arith in
      cc (
        ap (λ (x : ℕ). x % 256) one ∙ mod-eq_of_lt ha,
        ap (λ (x : ℕ). x % 256) two ∙ digits_mod a hb,
        ap (λ (x : ℕ). x % 256) three ∙ digits_mod (a * 256 + b) hc,
        ap (λ (x : ℕ). x % 256) four ∙ digits_mod ((a * 256 + b) * 256 + c) hd,
      )

  pub number-four : number (bits_of (a ∷ b ∷ c ∷ d ∷ [])) ≡ word_of a b c d
  number-four =
      let byte : (x : ℕ) → x < 256 → number (bits_of (x ∷ [])) ≡ x = λ x h. number-byte x ∙ mod-eq_of_lt h in
      omega (arith, number-bytes (a ∷ []) (b ∷ c ∷ d ∷ []), number-bytes (b ∷ []) (c ∷ d ∷ []), number-bytes (c ∷ []) (d ∷ []), byte a ha, byte b hb, byte c hc, byte d hd)

-- ---- a word

byte : (v : ℕ) → v % 256 < 256
byte v = mod-lt v (zero-lt-suc 255)

pub bytes-four : (v : ℕ) → Bytes (four_bytes v)
bytes-four v zero = byte (v / 2 ^ 24)
bytes-four v (suc zero) = byte (v / 2 ^ 16)
bytes-four v (suc (suc zero)) = byte (v / 2 ^ 8)
bytes-four v (suc (suc (suc zero))) = byte v
bytes-four v (suc (suc (suc (suc i)))) = omega arith

pub word_back : (v : ℕ) → v < 2 ^ 32 → word_at (four_bytes v) 0 ≡ v
word_back v h =
    let low : v / 2 ^ 8 * 2 ^ 8 + v % 256 ≡ v = split v 8 in
    let second : v / 2 ^ 16 * 2 ^ 8 + v / 2 ^ 8 % 256 ≡ v / 2 ^ 8 = ap (λ (x : ℕ). x * 2 ^ 8 + v / 2 ^ 8 % 256) (sym (shr-shr v 8 8)) ∙ split (v / 2 ^ 8) 8 in
    let third : v / 2 ^ 24 * 2 ^ 8 + v / 2 ^ 16 % 256 ≡ v / 2 ^ 16 = ap (λ (x : ℕ). x * 2 ^ 8 + v / 2 ^ 16 % 256) (sym (shr-shr v 16 8)) ∙ split (v / 2 ^ 16) 8 in
    let high : v / 2 ^ 24 % 256 ≡ v / 2 ^ 24 = shr_mod 8 24 h in
    omega arith

pub number-of-four : (v : ℕ) → v < 2 ^ 32 → number (bits_of (four_bytes v)) ≡ v
number-of-four v h =
    number-four (v / 2 ^ 24 % 256) (v / 2 ^ 16 % 256) (v / 2 ^ 8 % 256) (v % 256) (byte (v / 2 ^ 24)) (byte (v / 2 ^ 16)) (byte (v / 2 ^ 8)) (byte v) ∙ word_back v h

byte-combined : (v w k : ℕ) → bit_xor v w / 2 ^ k % 256 ≡ bit_xor (v / 2 ^ k % 256) (w / 2 ^ k % 256)
byte-combined v w k = ap (λ (x : ℕ). x % 256) (xor_shr v w k) ∙ xor_mod (v / 2 ^ k) (w / 2 ^ k) 8

-- the bytes of two words combined
pub four-combined : (v w : ℕ) → four_bytes (bit_xor v w) ≡ combined (four_bytes v) (four_bytes w)
unfolding combined
four-combined v w =
    cc (byte-combined v w 24, byte-combined v w 16, byte-combined v w 8, xor_mod v w 8)

-- ---- four bytes of a list

four-at : (l : List ℕ) (at : ℕ) → at + 4 ≤ length l → get_or l at 0 ∷ get_or l (at + 1) 0 ∷ get_or l (at + 2) 0 ∷ get_or l (at + 3) 0 ∷ [] ≡ take 4 (drop at l)
four-at l at h =
    let one : suc at ≡ at + 1 = omega arith in
    let two : suc (suc at) ≡ at + 2 = omega arith in
    let three : suc (suc (suc at)) ≡ at + 3 = omega arith in
    sym (rw (drop-cons l at 0 (omega arith), drop-cons l (suc at) 0 (omega arith), drop-cons l (suc (suc at)) 0 (omega arith), drop-cons l (suc (suc (suc at))) 0 (omega arith), three, two, one))

-- the bytes of the word are those of the list
pub byte-of-word : (l : List ℕ) (at j : ℕ) → Bytes l → j < 4 → get_or (four_bytes (word_at l at)) j 0 ≡ get_or l (at + j) 0
byte-of-word l at j bytes h =
    ap (λ (x : List ℕ). get_or x j 0) (four-bytes-back (get_or l at 0) (get_or l (at + 1) 0) (get_or l (at + 2) 0) (get_or l (at + 3) 0) (bytes at) (bytes (at + 1)) (bytes (at + 2)) (bytes (at + 3)))
    ∙ byte-there j h
  where
    byte-there : (j : ℕ) → j < 4 → get_or (get_or l at 0 ∷ get_or l (at + 1) 0 ∷ get_or l (at + 2) 0 ∷ get_or l (at + 3) 0 ∷ []) j 0 ≡ get_or l (at + j) 0
    byte-there zero h = let start : at ≡ at + 0 = omega arith in ap (λ (i : ℕ). get_or l i 0) start
    byte-there (suc zero) h = refl
    byte-there (suc (suc zero)) h = refl
    byte-there (suc (suc (suc zero))) h = refl
    byte-there (suc (suc (suc (suc j)))) h = absurd (omega arith)

-- the bytes of the word are four of the list
pub four-there : (l : List ℕ) (at : ℕ) → Bytes l → at + 4 ≤ length l → four_bytes (word_at l at) ≡ take 4 (drop at l)
four-there l at bytes h =
    four-bytes-back (get_or l at 0) (get_or l (at + 1) 0) (get_or l (at + 2) 0) (get_or l (at + 3) 0) (bytes at) (bytes (at + 1)) (bytes (at + 2)) (bytes (at + 3)) ∙ four-at l at h

-- ---- eight bytes

two-words : (v : ℕ) → eight_bytes v ≡ four_bytes (v / 2 ^ 32) ++ four_bytes v
two-words v = rw (shr-shr v 32 24, shr-shr v 32 16, shr-shr v 32 8)

-- what stands above a word's bits has no part in its bytes
four_low : (v : ℕ) → four_bytes (v % 2 ^ 32) ≡ four_bytes v
four_low v =
    let byte_at : (j k : ℕ) → v % 2 ^ (8 + j + k) / 2 ^ k % 256 ≡ v / 2 ^ k % 256 =
    λ j k. ap (λ (x : ℕ). x % 256) (field v (8 + j) k) ∙ ap (λ (n : ℕ). v / 2 ^ k % 2 ^ n % 256) (add_comm 8 j) ∙ mod-mod-pow (v / 2 ^ k) j 8 in
    cc (byte_at 0 24, byte_at 8 16, byte_at 16 8, mod-mod-pow v 24 8)

pub number-of-eight : (v : ℕ) → v < 2 ^ 64 → number (bits_of (eight_bytes v)) ≡ v
number-of-eight v h =
    let low : number (bits_of (four_bytes v)) ≡ v % 2 ^ 32 = ap (λ (l : List ℕ). number (bits_of l)) (sym (four_low v)) ∙ number-of-four (v % 2 ^ 32) (mod-lt v (pow_pos 32)) in
    rw (two-words v, number-bytes (four_bytes (v / 2 ^ 32)) (four_bytes v), number-of-four (v / 2 ^ 32) (shr_lt 32 32 h), low) (split v 32)

pub eight-combined : (v w : ℕ) → eight_bytes (bit_xor v w) ≡ combined (eight_bytes v) (eight_bytes w)
unfolding combined
eight-combined v w =
    cc (
      byte-combined v w 56,
      byte-combined v w 48,
      byte-combined v w 40,
      byte-combined v w 32,
      byte-combined v w 24,
      byte-combined v w 16,
      byte-combined v w 8,
      xor_mod v w 8,
    )

-- the eight bytes of two words of a list, one behind the other
pub eight-there : (l : List ℕ) (at hi lo : ℕ) → Bytes l → at + 8 ≤ length l → hi ≡ word_at l at → lo ≡ word_at l (at + 4) → lo < 2 ^ 32
    → eight_bytes (hi * 2 ^ 32 + lo) ≡ take 8 (drop at l)
eight-there l at hi lo bytes h eh el low =
    let back : four_bytes (hi * 2 ^ 32 + lo) ≡ four_bytes lo = sym (four_low (hi * 2 ^ 32 + lo)) ∙ ap four_bytes (digits_mod hi low) in
    two-words (hi * 2 ^ 32 + lo)
    ∙ ap₂ ◌++◌ (ap four_bytes (high hi 32 low ∙ eh) ∙ four-there l at bytes (omega arith)) (back ∙ ap four_bytes el ∙ four-there l (at + 4) bytes (omega arith))
    ∙ ap (λ (m : List ℕ). take 4 (drop at l) ++ take 4 m) (sym (drop-drop 4 at l))
    ∙ sym (take-add 4 4 (drop at l))
