-- 13.9.2.2: the address field of an address unit, nine bytes from its AUN and its flag byte.
use Rattle.std.specs.Prelude.{Bool, true, false, cond, List, [], ◌∷◌, ◌++◌, ℕ, ◌+◌, ◌*◌, ◌-◌, ◌/◌, ◌%◌, ◌^◌, get_or}
use Rattle.laws.specs.Tabulate.{tabulate}
use Rattle.big_endian.specs.Words.{word_of}
use Rattle.column.specs.Column.{parity}

-- ---- the primary address field

-- PAF0: the AUN's high byte with its bits in the order AU31, AU30, AU29, AU28, AU24, AU27, AU26, AU25
abbrev pub reordered : ℕ → ℕ
reordered high = high / 16 * 16 + high % 2 * 8 + high / 2 % 8

-- PAF0 to PAF4: the AUN's four bytes, high first, and the flag byte
abbrev pub information : ℕ → ℕ → List ℕ
information aun flag = reordered (aun / 2 ^ 24 % 256) ∷ aun / 2 ^ 16 % 256 ∷ aun / 2 ^ 8 % 256 ∷ aun % 256 ∷ flag ∷ []

-- with PAF5 to PAF8, the parity of a (9,5,5) code (formula 33)
unfoldable pub primary_field : ℕ → ℕ → List ℕ
primary_field aun flag = information aun flag ++ parity 4 (information aun flag)

-- ---- the address field: the primary one, partly inverted

-- AF2, AF3, AF5 and AF6 have all bits inverted
abbrev pub is_inverted : ℕ → Bool
is_inverted x = get_or (false ∷ false ∷ true ∷ true ∷ false ∷ true ∷ true ∷ false ∷ false ∷ []) x false

abbrev pub inverted_at : ℕ → ℕ → ℕ
inverted_at x byte = cond (is_inverted x) (255 - byte) byte

-- partial inversion of nine bytes; it undoes itself
unfoldable pub partly_inverted : List ℕ → List ℕ
partly_inverted field = tabulate 9 (λ x. inverted_at x (get_or field x 0))

unfoldable pub address_field : ℕ → ℕ → List ℕ
address_field aun flag = partly_inverted (primary_field aun flag)

-- ---- and back, from a primary address field

-- the AUN's high byte from PAF0
abbrev pub restored : ℕ → ℕ
restored paf0 = paf0 / 16 * 16 + paf0 % 8 * 2 + paf0 / 8 % 2

abbrev pub aun_in : List ℕ → ℕ
aun_in primary = word_of (restored (get_or primary 0 0)) (get_or primary 1 0) (get_or primary 2 0) (get_or primary 3 0)

abbrev pub flag_in : List ℕ → ℕ
flag_in primary = get_or primary 4 0
