-- 13.14, Figure 36: the ECC cluster, 496 rows of 155 bytes: 38 columns of the LDC cluster, one of the BIS cluster, 38, 1, 38, 1, 38.
use Rattle.std.specs.Prelude.{cond, List, ℕ, ◌+◌, ◌*◌, ◌-◌, ◌/◌, ◌%◌, eqb, get_or}
use Rattle.laws.specs.Tabulate.{tabulate}
use Rattle.bis.specs.BisCluster as Bis
use Rattle.sizes.specs.Sizes.{work_size, row_size}

-- byte j of a row, where `ldc` gives the LDC cluster by row and column and `block` is the BIS block
abbrev pub row_byte : (ℕ → ℕ → ℕ) → List (List ℕ) → ℕ → ℕ → ℕ
row_byte ldc block row j = cond (eqb (j % 39) 38) (Bis.bis_byte block row (j / 39)) (ldc row (j - j / 39))

-- the 76,880 bytes, row by row
unfoldable pub multiplexed : (ℕ → ℕ → ℕ) → List (List ℕ) → List ℕ
multiplexed ldc block = tabulate work_size (λ k. row_byte ldc block (k / row_size) (k % row_size))

-- ---- and back, from 76,880 bytes

-- where a row and a column of the LDC cluster, of the BIS cluster, stand
abbrev pub ldc_index : ℕ → ℕ → ℕ
ldc_index row column = row_size * row + column + column / 38

abbrev pub bis_index : ℕ → ℕ → ℕ
bis_index row column = row_size * row + 39 * column + 38

-- the LDC cluster by row and column
abbrev pub ldc_in : List ℕ → ℕ → ℕ → ℕ
ldc_in work row column = get_or work (ldc_index row column) 0

-- column C of the BIS block
unfoldable pub column_in : List ℕ → ℕ → List ℕ
column_in work C = tabulate 62 (λ N. get_or work (bis_index (Bis.bis_row N C) (Bis.bis_column N C)) 0)

unfoldable pub bis_in : List ℕ → List (List ℕ)
bis_in work = tabulate 24 (column_in work)
