-- 13.9.2.1, 13.9.3, 13.10: the access block, 30 rows and 24 columns, from 16 address fields and 32 × 18 bytes of user control data.
use Rattle.std.specs.Prelude.{◌≡◌, cond, List, [], ℕ, ◌+◌, ◌*◌, ◌-◌, ◌/◌, ◌%◌, ltb, length, get_or}
use Rattle.laws.specs.Bytes.{Bytes}
use Rattle.laws.specs.Tabulate.{tabulate}
use Rattle.address.specs.Conversions.{aun_of}
use Rattle.bis.specs.AddressField.{address_field}
use Rattle.sizes.specs.Sizes.{side_size}

-- Side data (document 01): 16 flag bytes, one for each address unit, then 32 × 18 bytes of user control data. They are taken unit by unit: byte j
-- of unit S at 16 + 18 S + j (docs/DECISIONS).
pub record Side (side : List ℕ) : Type 0 where
  pub size : length side ≡ side_size
  pub bytes : Bytes side

-- the address field of unit y of the cluster at a PSN
unfoldable pub field_of : ℕ → List ℕ → ℕ → List ℕ
field_of psn side y = address_field (aun_of psn y) (get_or side y 0)

-- the sixteen address fields
unfoldable pub address_fields : ℕ → List ℕ → List (List ℕ)
address_fields psn side = tabulate 16 (field_of psn side)

-- ---- formula 35: where byte AF x,y (byte x of address field y) stands

abbrev pub row_of_af : ℕ → ℕ → ℕ
row_of_af x y = 2 * (x / 3) + y / 8

abbrev pub column_of_af : ℕ → ℕ → ℕ
column_of_af x y = 3 * ((x / 3 + 16 - y) % 8) + (x - x / 3) % 3

-- the same the other way (proofs/Mapping: field-place, control-place): in the first six rows, address field and byte of what stands in a row
-- and a column
abbrev pub field_at : ℕ → ℕ → ℕ
field_at row column = 8 * (row % 2) + (row / 2 + 16 - column / 3) % 8

abbrev pub byte_at : ℕ → ℕ → ℕ
byte_at row column = 3 * (row / 2) + (column % 3 + row / 2) % 3

-- ---- 13.10: the units of user control data are placed in the column direction, each in 3/4 of a column, in the other 24 rows. No formula is
-- printed; this one, for byte k = 18 S + j (byte j of unit S), gives the entries of Figure 31 (proofs/Figures: figure-31-control).

abbrev pub row_of_uc : ℕ → ℕ
row_of_uc k = 6 + k % 24

abbrev pub column_of_uc : ℕ → ℕ
column_of_uc k = k / 24

-- the same the other way
abbrev pub control_at : ℕ → ℕ → ℕ
control_at row column = 24 * column + (row - 6)

-- ---- the byte in a row and a column

abbrev pub access_byte : List (List ℕ) → List ℕ → ℕ → ℕ → ℕ
access_byte fields side row column =
    cond (ltb row 6) (get_or (get_or fields (field_at row column) []) (byte_at row column) 0) (get_or side (16 + control_at row column) 0)
