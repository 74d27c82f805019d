-- 13.15, Figure 37: the 1,268 bits of a recording frame, from the 155 bytes of a row of the ECC cluster and 28 dc-control bits.
use Rattle.std.specs.Prelude.{cond, List, ℕ, ◌+◌, ◌*◌, ◌-◌, ◌/◌, ◌%◌, ◌^◌, eqb, get_or}
use Rattle.laws.specs.Tabulate.{tabulate}
use Rattle.bits.specs.Bits.{bits_of, number, packed}

-- Groups of 45 data bits and a dc-control bit. The first has 20 of its 45 positions for the frame sync, and 25 data bits:
-- so bit j stands at position (j + 20) % 46 of group (j + 20) / 46.

abbrev pub group : ℕ → ℕ
group j = (j + 20) / 46

abbrev pub position : ℕ → ℕ
position j = (j + 20) % 46

-- bit j: the dc-control bit of its group, or the row's next data bit. Bit 27 of the dc word is the first dc-control bit (document 01).
abbrev pub frame_bit : List ℕ → ℕ → ℕ → ℕ
frame_bit row dc j = cond (eqb (position j) 45) (dc / 2 ^ (27 - group j) % 2) (get_or (bits_of row) (j - group j) 0)

unfoldable pub frame_bits : List ℕ → ℕ → List ℕ
frame_bits row dc = tabulate 1268 (frame_bit row dc)

-- ---- and back

-- where data bit p, 0 to 1,239, and dc-control bit i, 0 to 27, stand
abbrev pub data_place : ℕ → ℕ
data_place p = p + (p + 20) / 45

abbrev pub dc_place : ℕ → ℕ
dc_place i = 46 * i + 25

-- the row and the dc word of a frame's bits
unfoldable pub row_from : List ℕ → List ℕ
row_from b = packed (tabulate 1240 (λ p. get_or b (data_place p) 0))

unfoldable pub dc_from : List ℕ → ℕ
dc_from b = number (tabulate 28 (λ i. get_or b (dc_place i) 0))
