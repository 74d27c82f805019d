-- 13.13: the BIS cluster, 496 rows and 3 columns, from a BIS block given by its columns.
use Rattle.std.specs.Prelude.{List, [], ℕ, ◌+◌, ◌*◌, ◌-◌, ◌/◌, ◌%◌, get_or}

-- formulas 39 to 41: the unit, the row in it, and the column of byte N of code word C
abbrev pub unit_of : ℕ → ℕ → ℕ
unit_of N C = (N / 2 + 8 - C / 3) % 8 + 8 * (N % 2)

abbrev pub row_in_unit : ℕ → ℕ
row_in_unit N = N / 2

abbrev pub bis_column : ℕ → ℕ → ℕ
bis_column N C = (C + N / 2) % 3

-- formula 42's row: a unit has 31 rows
abbrev pub bis_row : ℕ → ℕ → ℕ
bis_row N C = 31 * unit_of N C + row_in_unit N

-- the same the other way (proofs/Mapping: word-place): byte and code word of what stands in a row and a column of the cluster
abbrev pub word_byte_at : ℕ → ℕ
word_byte_at row = 2 * (row % 31) + row / 31 / 8

abbrev pub code_word_at : ℕ → ℕ → ℕ
code_word_at row column = 3 * ((row % 31 + 8 - row / 31 % 8) % 8) + (column + 2 * (row % 31)) % 3

-- the byte in a row and a column of the BIS cluster
abbrev pub bis_byte : List (List ℕ) → ℕ → ℕ → ℕ
bis_byte block row column = get_or (get_or block (code_word_at row column) []) (word_byte_at row) 0
