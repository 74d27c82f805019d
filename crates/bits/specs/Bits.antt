-- The bits of a list of bytes, the highest of each byte first (document 01: bytes run msb first). A bit is a number, 0 or 1.
use Rattle.std.specs.Prelude.{List, [], ◌∷◌, ℕ, ◌+◌, ◌*◌, ◌-◌, ◌/◌, ◌%◌, ◌^◌, ◌<◌, length, get_or, take, drop}
use Rattle.laws.specs.Tabulate.{tabulate}

-- every element is 0 or 1
abbrev pub Bits : List ℕ → Type 0
Bits b = (i : ℕ) → get_or b i 0 < 2

-- bit p of the bytes l
abbrev pub bit_at : List ℕ → ℕ → ℕ
bit_at l p = get_or l (p / 8) 0 / 2 ^ (7 - p % 8) % 2

unfoldable pub bits_of : List ℕ → List ℕ
bits_of l = tabulate (8 * length l) (bit_at l)

-- the number that bits make, the first highest
unfoldable pub number : List ℕ → ℕ
number [] = 0
number (b ∷ bs) = b * 2 ^ length bs + number bs

-- the n low bits of v, the highest first
unfoldable pub bits_of_number : ℕ → ℕ → List ℕ
bits_of_number n v = tabulate n (λ k. v / 2 ^ (n - 1 - k) % 2)

-- bits packed into bytes, eight by eight; a remainder of fewer than eight is left out
unfoldable pub packed : List ℕ → List ℕ
packed b = tabulate (length b / 8) (λ k. number (take 8 (drop (8 * k) b)))

-- the number that the three bits from p on make, the first highest
abbrev pub three_at : List ℕ → ℕ → ℕ
three_at b p = 4 * get_or b p 0 + 2 * get_or b (p + 1) 0 + get_or b (p + 2) 0

-- the three low bits of v, the highest first
abbrev pub three_of : ℕ → List ℕ
three_of v = v / 4 % 2 ∷ v / 2 % 2 ∷ v % 2 ∷ []
