-- dc words in a file: 496 words of four bytes, high byte first.
use Rattle.std.specs.Prelude.{cond, List, ℕ, ◌*◌, ◌/◌, ◌%◌, eqb, length, get_or}
use Rattle.sizes.specs.Sizes.{dc_size, frame_count}
use Rattle.laws.specs.Tabulate.{tabulate}
use Rattle.big_endian.specs.Words.{word_at, four_bytes}

-- how many words so many bytes hold
abbrev pub word_count : ℕ → ℕ
word_count bytes = cond (eqb bytes dc_size) frame_count 0

unfoldable pub words_of : List ℕ → List ℕ
words_of bytes = tabulate frame_count (λ n. word_at bytes (4 * n))

-- byte k of the words' bytes
unfoldable pub dc_byte : List ℕ → ℕ → ℕ
dc_byte words k = get_or (four_bytes (get_or words (k / 4) 0)) (k % 4) 0

unfoldable pub bytes_of : List ℕ → List ℕ
bytes_of words = tabulate dc_size (dc_byte words)

-- ---- what a lent slice holds afterwards: slices of other lengths stay as they were

unfoldable pub words_read : List ℕ → List ℕ → List ℕ
words_read bytes before = cond (eqb (length bytes) dc_size) (cond (eqb (length before) frame_count) (words_of bytes) before) before

unfoldable pub bytes_read : List ℕ → List ℕ → List ℕ
bytes_read words before = cond (eqb (length words) frame_count) (cond (eqb (length before) dc_size) (bytes_of words) before) before
