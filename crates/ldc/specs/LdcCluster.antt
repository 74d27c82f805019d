-- 13.8: the LDC cluster, 496 rows and 152 columns, by two interleavings of the LDC block.
use Rattle.std.specs.Prelude.{List, ℕ, ◌+◌, ◌*◌, ◌/◌, ◌%◌, get_or}
use Rattle.ldc.specs.LdcBlock.{code_word}

-- where a byte of the LDC block stands: code word (column of the block) and byte in it (row of the block)
pub record Origin : Type 0 where
  pub word : ℕ
  pub byte : ℕ

-- first step: each even column is multiplexed with the next odd one, the even one's byte first
abbrev pub columns_multiplexed : ℕ → ℕ → Origin
columns_multiplexed row column = record { word = 2 * column + row % 2; byte = row / 2 }

-- second step: row by row a cyclic shift to the left by mod (3 k, 152), k = div (row, 2)
abbrev pub shifted : ℕ → ℕ → Origin
shifted row column = columns_multiplexed row ((column + 3 * (row / 2) % 152) % 152)

-- the byte in a row and a column of the LDC cluster
abbrev pub ldc_byte : (ℕ → List ℕ) → ℕ → ℕ → ℕ
ldc_byte frames row column = get_or (code_word frames (shifted row column).word) (shifted row column).byte 0
