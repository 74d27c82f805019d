-- 13.11, 13.12: the BIS block, whose 24 columns are the BIS code words of 62 bytes.
use Rattle.std.specs.Prelude.{◌≡◌, List, [], ◌++◌, ℕ, ◌<◌, length, get_or}
use Rattle.laws.specs.Bytes.{Bytes}
use Rattle.laws.specs.Tabulate.{tabulate}
use Rattle.column.specs.Column.{parity}
use Rattle.bis.specs.AccessBlock.{address_fields, access_byte}

-- b_0,C to b_29,C: column C of the access block
unfoldable pub access_column : List (List ℕ) → List ℕ → ℕ → List ℕ
access_column fields side C = tabulate 30 (λ row. access_byte fields side row C)

-- code word C: its 30 information bytes and 32 parity bytes
unfoldable pub code_word : List (List ℕ) → List ℕ → ℕ → List ℕ
code_word fields side C = access_column fields side C ++ parity 32 (access_column fields side C)

-- the BIS block of the cluster at a PSN, column by column
unfoldable pub bis_block : ℕ → List ℕ → List (List ℕ)
bis_block psn side = tabulate 24 (code_word (address_fields psn side) side)

-- 24 columns of 62 bytes
pub record Block (block : List (List ℕ)) : Type 0 where
  pub columns : length block ≡ 24
  pub size : (C : ℕ) → C < 24 → length (get_or block C []) ≡ 62
  pub bytes : (C : ℕ) → C < 24 → Bytes (get_or block C [])
