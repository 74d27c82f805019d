-- dc words read from bytes and written as bytes: as the code has them. Assumes nothing.
use mathlib.Core.Path.{◌≡◌, ap, ◌∙◌}
use mathlib.Core.List.{List}
use Prim.Native.Nat.{ℕ, ◌*◌, ◌/◌, ◌%◌, ◌≤◌}
use borrow.Author.Tests.{eq-eqb}
use lib.ListN.{length, get_or}
use Rattle.laws.proofs.Fill.{Upto, upto_all}
use Rattle.laws.proofs.Tabulate.{length-tabulate}
use Rattle.notation.specs.Words.{words_of, dc_byte, bytes_of, words_read, bytes_read}
use Rattle.big_endian.specs.Words.{word_at, four_bytes}

pub length-words : (bytes : List ℕ) → length (words_of bytes) ≡ 496
unfolding words_of
length-words bytes = length-tabulate 496 (λ n. word_at bytes (4 * n))

module _ (bytes before : List ℕ) where
  pub words-read : (after : List ℕ) (n : ℕ) → length bytes ≡ 1984 → length before ≡ 496 → 496 ≤ n → Upto 0 (λ n. word_at bytes (4 * n)) 496 n after → after ≡ words_read bytes before
  unfolding words_read words_of
  words-read after n e h all u = upto_all all u ∙ rw (eq-eqb (length bytes) 1984 e, eq-eqb (length before) 496 h)

pub byte-written : (words : List ℕ) (k : ℕ) {four : List ℕ} → four ≡ four_bytes (get_or words (k / 4) 0) → get_or four (k % 4) 0 ≡ dc_byte words k
unfolding dc_byte
byte-written words k e = ap (λ (l : List ℕ). get_or l (k % 4) 0) e

module _ (words before : List ℕ) where
  pub bytes-read : (after : List ℕ) (n : ℕ) → length words ≡ 496 → length before ≡ 1984 → 1984 ≤ n → Upto 0 (dc_byte words) 1984 n after → after ≡ bytes_read words before
  unfolding bytes_read bytes_of
  bytes-read after n e h all u = upto_all all u ∙ rw (eq-eqb (length words) 496 e, eq-eqb (length before) 1984 h)
