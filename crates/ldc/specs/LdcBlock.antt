-- 13.5 to 13.7: the data block, 216 rows and 304 columns, and the LDC block, whose columns are the LDC code words of 248 bytes.
use Rattle.std.specs.Prelude.{List, ◌++◌, ℕ, ◌+◌, ◌*◌, ◌/◌, ◌%◌, get_or}
use Rattle.laws.specs.Tabulate.{tabulate}
use Rattle.column.specs.Column.{parity}

-- byte p of the 32 scrambled data frames of 2,052 bytes, one behind the other: which frame, and which byte of it
abbrev pub frame_of : ℕ → ℕ
frame_of p = p / 2052

abbrev pub byte_of : ℕ → ℕ
byte_of p = p % 2052

abbrev pub data_byte : (ℕ → List ℕ) → ℕ → ℕ
data_byte frames p = get_or (frames (frame_of p)) (byte_of p) 0

-- byte i of column L: the columns are filled one after the other, from the top
abbrev pub data_index : ℕ → ℕ → ℕ
data_index L i = 216 * L + i

-- e_0,L to e_215,L: column L of the data block
unfoldable pub information : (ℕ → List ℕ) → ℕ → List ℕ
information frames L = tabulate 216 (λ i. data_byte frames (data_index L i))

-- code word L: its 216 information bytes and 32 parity bytes
unfoldable pub code_word : (ℕ → List ℕ) → ℕ → List ℕ
code_word frames L = information frames L ++ parity 32 (information frames L)
