-- What is promised: dc words written as bytes are read back, bytes read as dc words are written back, and a PSN that is printed is read. Assumes nothing.
use mathlib.Core.Path.{◌≡◌, refl, sym, ap, ap₂, ◌∙◌}
use mathlib.Core.List.{List, [], ◌∷◌, ◌++◌}
use Prim.Native.Nat.{ℕ, zero, suc, ◌+◌, ◌*◌, ◌/◌, ◌%◌, ◌^◌, ◌<◌, ◌≤◌}
use native.Mathlib.Numerals.{add-one}
use native.Mathlib.Omega.{arith}
use lib.Dec.{leb}
use lib.ListN.{length, get_or, length-append, get_or-append}
use lib.Seq.{get_or_at}
use Rattle.laws.specs.Bytes.{Bytes}
use Rattle.laws.specs.First.{first}
use Rattle.laws.proofs.Finite.{all, equal-below}
use Rattle.laws.proofs.First.{Passed, passed_none, passed-more}
use Rattle.io.specs.Digits.{hex_digit_ascii, last_digits}
use Rattle.laws.proofs.Tabulate.{is-tabulate, get_d_tabulate}
use Rattle.std.specs.Prelude.{Some, None}
use Rattle.notation.specs.Psn.{digit_of, value_to, no_digit, psn_of}
use Rattle.notation.proofs.Digits.{a-digit, eight-digits}
use Rattle.big_endian.specs.Words.{word_at, four_bytes}
use Rattle.big_endian.proofs.Words.{word_back, byte-of-word}
use Rattle.notation.specs.Words.{words_of, dc_byte, bytes_of}

-- ---- dc words

module _ (words : List ℕ) (size : length words ≡ 496) (small : (n : ℕ) → get_or words n 0 < 4294967296) where
  byte : (n j : ℕ) → n < 496 → j < 4 → get_or (bytes_of words) (4 * n + j) 0 ≡ get_or (four_bytes (get_or words n 0)) j 0
  unfolding bytes_of dc_byte
  byte n j h l =
      let q : (4 * n + j) / 4 ≡ n = omega arith in
      let r : (4 * n + j) % 4 ≡ j = omega arith in
      get_d_tabulate 1984 (dc_byte words) (4 * n + j) 0 (omega arith) ∙ ap₂ (λ (m i : ℕ). get_or (four_bytes (get_or words m 0)) i 0) q r

  word : (n : ℕ) → n < 496 → get_or words n 0 ≡ word_at (bytes_of words) (4 * n)
  word n h =
      let start : 4 * n + 0 ≡ 4 * n = omega arith in
      let first = ap (λ (k : ℕ). get_or (bytes_of words) k 0) (sym start) ∙ byte n 0 h (omega arith) in
      rw (first, byte n 1 h (omega arith), byte n 2 h (omega arith), byte n 3 h (omega arith)) (sym (word_back (get_or words n 0) (small n)))

  -- written as bytes and read back
  pub words_back : words_of (bytes_of words) ≡ words
  unfolding words_of
  words_back = sym (is-tabulate 0 496 (λ n. word_at (bytes_of words) (4 * n)) words size word)

module _ (bytes : List ℕ) (size : length bytes ≡ 1984) (small : Bytes bytes) where
  word_read : (k : ℕ) → k < 1984 → get_or (words_of bytes) (k / 4) 0 ≡ word_at bytes (4 * (k / 4))
  unfolding words_of
  word_read k h = get_d_tabulate 496 (λ n. word_at bytes (4 * n)) (k / 4) 0 (omega arith)

  at : (k : ℕ) → k < 1984 → get_or bytes k 0 ≡ dc_byte (words_of bytes) k
  unfolding dc_byte
  at k h =
      let place : k ≡ 4 * (k / 4) + k % 4 = omega arith in
      ap (λ (i : ℕ). get_or bytes i 0) place
      ∙ sym (byte-of-word bytes (4 * (k / 4)) (k % 4) small (omega arith))
      ∙ ap (λ (w : ℕ). get_or (four_bytes w) (k % 4) 0) (sym (word_read k h))

  -- read as words and written back
  pub bytes_back : bytes_of (words_of bytes) ≡ bytes
  unfolding bytes_of
  bytes_back = sym (is-tabulate 0 1984 (dc_byte (words_of bytes)) bytes size at)

-- ---- PSNs: what is printed is read

value-prefix : (l m : List ℕ) (k : ℕ) → k ≤ length l → value_to (l ++ m) k ≡ value_to l k
unfolding value_to
value-prefix l m zero h = refl
value-prefix l m (suc k) h = ap₂ (λ (v d : ℕ). v * 16 + digit_of d) (value-prefix l m k (omega arith)) (get_or-append l m 0 k (omega arith))

pub digit-back : (d : ℕ) → d < 16 → digit_of (hex_digit_ascii d) ≡ d
unfolding all digit_of
digit-back d h = equal-below 16 (λ d. digit_of (hex_digit_ascii d)) (λ d. d) tt d h

length_digits : (k n : ℕ) → length (last_digits 16 k n) ≡ k
length_digits zero n = refl
length_digits (suc k) n = length-append (last_digits 16 k (n / 16)) (hex_digit_ascii (n % 16) ∷ []) ∙ ap (λ (j : ℕ). j + 1) (length_digits k (n / 16)) ∙ add-one k

-- the last of k + 1 digits
last-digit : (k n : ℕ) → digit_of (get_or (last_digits 16 (suc k) n) k 0) ≡ n % 16
last-digit k n = ap digit_of (get_or_at (last_digits 16 k (n / 16)) (hex_digit_ascii (n % 16)) [] 0 k (length_digits k (n / 16))) ∙ digit-back (n % 16) (omega arith)

digits_value : (k n : ℕ) → n < 16 ^ k → value_to (last_digits 16 k n) k ≡ n
unfolding value_to
digits_value zero n h = omega arith
digits_value (suc k) n h =
    let size = length_digits k (n / 16) in
    let rest = value-prefix (last_digits 16 k (n / 16)) (hex_digit_ascii (n % 16) ∷ []) k (omega arith) ∙ digits_value k (n / 16) (omega arith) in
    let last = last-digit k n in
    omega arith

-- one digit more
more-digits : (k n : ℕ) → Passed (no_digit (last_digits 16 k (n / 16))) k → Passed (no_digit (last_digits 16 (suc k) n)) k
unfolding no_digit
more-digits k n rest =
    record {
      fails = λ j h. ap (λ (b : ℕ). leb 16 (digit_of b)) (get_or-append (last_digits 16 k (n / 16)) (hex_digit_ascii (n % 16) ∷ []) 0 j (omega (arith, length_digits k (n / 16)))) ∙ rest.fails j h;
    }

all_digits : (k n : ℕ) → Passed (no_digit (last_digits 16 k n)) k
all_digits zero n = passed_none
all_digits (suc k) n =
    let more : Passed (no_digit (last_digits 16 (suc k) n)) (k + 1) =
    passed-more (more-digits k n (all_digits k (n / 16))) (a-digit (last_digits 16 (suc k) n) k (n % 16) (sym (last-digit k n)) (omega arith)) in
    rw add-one at more

-- a PSN as the programs print it, eight digits, is read as that PSN
pub printed-back : (n : ℕ) → n < 4294967296 → psn_of (last_digits 16 8 n) ≡ Some (record { 0 = n })
printed-back n h = sym (eight-digits (last_digits 16 8 n) n 8 (length_digits 8 n) refl (all_digits 8 n) (sym (digits_value 8 n (omega arith))))

-- ---- PSNs: `00100000`, `03EFFFE0` and `03effFe0`; a sign, a short text

pub examples :
    (psn_of (48 ∷ 48 ∷ 49 ∷ 48 ∷ 48 ∷ 48 ∷ 48 ∷ 48 ∷ []) ≡ Some (record { 0 = 0x0010_0000 }))
    × (psn_of (48 ∷ 51 ∷ 69 ∷ 70 ∷ 70 ∷ 70 ∷ 69 ∷ 48 ∷ []) ≡ Some (record { 0 = 0x03EF_FFE0 }))
    × (psn_of (48 ∷ 51 ∷ 101 ∷ 102 ∷ 102 ∷ 70 ∷ 101 ∷ 48 ∷ []) ≡ Some (record { 0 = 0x03EF_FFE0 }))
    × (psn_of (45 ∷ 48 ∷ 49 ∷ 48 ∷ 48 ∷ 48 ∷ 48 ∷ 48 ∷ []) ≡ None)
    × (psn_of (49 ∷ 48 ∷ 48 ∷ 48 ∷ 48 ∷ 48 ∷ []) ≡ None)
unfolding psn_of value_to digit_of no_digit first
examples = (refl, refl, refl, refl, refl)
