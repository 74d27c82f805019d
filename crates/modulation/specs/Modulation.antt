-- 17PP modulation, 13.17.2: the rows of Figure 38, and at each word's start the longest that fits (document 01).
-- Data bits stand two by two and modulation bits three by three, as the figure prints them.
use Rattle.std.specs.Prelude.{Bool, true, false, not, ◌&&◌, ◌||◌, cond, List, [], ◌∷◌, ◌++◌, ℕ, zero, suc, ◌-◌, ◌%◌, eqb, length, get_or}

-- two data bits
pub data Two : Type 0 where
  d00 d01 d10 d11 : Two

-- three modulation bits
pub data Three : Type 0 where
  m000 m001 m010 m011 m100 m101 m110 m111 : Three

-- when a row may be taken: always; where the modulation bit before is ONE, is ZERO; where the next modulation bits are 010;
-- where the frame ends with it
pub data When : Type 0 where
  always after_one after-zero before-010 at-end : When

pub record Row : Type 0 where
  pub pairs : List Two
  pub groups : List Three
  pub when : When

abbrev row : List Two → List Three → When → Row
row d m w = record { pairs = d; groups = m; when = w }

-- Figure 38: data bits and modulation bits
abbrev pub conversion : List Row
conversion =
    row (d00 ∷ d00 ∷ d00 ∷ d00 ∷ []) (m010 ∷ m100 ∷ m100 ∷ m100 ∷ []) always ∷
    row (d00 ∷ d00 ∷ d10 ∷ d00 ∷ []) (m000 ∷ m100 ∷ m100 ∷ m100 ∷ []) always ∷
    row (d00 ∷ d00 ∷ d00 ∷ []) (m010 ∷ m100 ∷ m000 ∷ []) always ∷
    row (d00 ∷ d00 ∷ d01 ∷ []) (m010 ∷ m100 ∷ m100 ∷ []) always ∷
    row (d00 ∷ d00 ∷ d10 ∷ []) (m000 ∷ m100 ∷ m000 ∷ []) always ∷
    row (d00 ∷ d00 ∷ d11 ∷ []) (m000 ∷ m100 ∷ m100 ∷ []) always ∷
    row (d00 ∷ d01 ∷ []) (m000 ∷ m100 ∷ []) always ∷
    row (d00 ∷ d10 ∷ []) (m010 ∷ m000 ∷ []) always ∷
    row (d00 ∷ d11 ∷ []) (m010 ∷ m100 ∷ []) always ∷
    row (d01 ∷ []) (m010 ∷ []) always ∷
    row (d10 ∷ []) (m001 ∷ []) always ∷
    row (d11 ∷ []) (m000 ∷ []) after_one ∷
    row (d11 ∷ []) (m101 ∷ []) after-zero ∷
    []

-- Figure 38: data bit pattern to be substituted
abbrev pub substitution : List Row
substitution = row (d11 ∷ d01 ∷ d11 ∷ []) (m001 ∷ m000 ∷ m000 ∷ []) before-010 ∷ []

-- Figure 38: terminating data bits
abbrev pub termination : List Row
termination =
    row (d00 ∷ d00 ∷ []) (m010 ∷ m100 ∷ []) at-end ∷
    row (d00 ∷ []) (m000 ∷ []) at-end ∷
    []

-- the rows of n pairs
abbrev pub of_length : ℕ → List Row → List Row
of_length n [] = []
of_length n (r ∷ rs) = cond (eqb (length r.pairs) n) (r ∷ of_length n rs) (of_length n rs)

abbrev pub longest_first : List Row → List Row
longest_first rs = of_length 4 rs ++ (of_length 3 rs ++ (of_length 2 rs ++ of_length 1 rs))

-- the rows in the order in which they are tried: the longest first, and the terminating ones where none of those fits
abbrev pub rows : List Row
rows = longest_first (conversion ++ substitution) ++ termination

-- the number that the bits make, the first highest
abbrev pub two_number : Two → ℕ
two_number d00 = 0b00
two_number d01 = 0b01
two_number d10 = 0b10
two_number d11 = 0b11

abbrev pub three_number : Three → ℕ
three_number m000 = 0b000
three_number m001 = 0b001
three_number m010 = 0b010
three_number m011 = 0b011
three_number m100 = 0b100
three_number m101 = 0b101
three_number m110 = 0b110
three_number m111 = 0b111

-- xs stands at the front of l; elements are compared by their numbers
abbrev pub starts : {A : Type 0} → (A → ℕ) → List A → List A → Bool
starts n [] l = true
starts n (x ∷ xs) [] = false
starts n (x ∷ xs) (y ∷ l) = eqb (n x) (n y) && starts n xs l

abbrev pub starts_with010 : List Three → Bool
starts_with010 [] = false
starts_with010 (m ∷ ms) = eqb (three_number m) 0b010

-- the last of the bits is a ONE; b where there are none
abbrev pub last_bit : Bool → List Three → Bool
last_bit b [] = b
last_bit b (m ∷ ms) = last_bit (eqb (three_number m % 2) 1) ms

-- a frame's modulation bits, and whether it ended by a terminating row
pub record Modulated : Type 0 where
  pub groups : List Three
  pub terminated : Bool

-- what the pairs behind a word's first give, of which k more belong to the word; b is the word's last bit
abbrev pub Rest : Type 0
Rest = (k : ℕ) (b : Bool) → Modulated

-- what follows the word that is row r
abbrev pub rest_behind : Row → Rest → Modulated
rest_behind r rest = rest (length r.pairs - 1) (last_bit false r.groups)

-- the row's condition holds after the bit b, at the pairs ds that are left of the frame
abbrev pub allowed : Row → When → Bool → List Two → Rest → Bool
allowed r always b ds rest = true
allowed r after_one b ds rest = b
allowed r after-zero b ds rest = not b
allowed r before-010 b ds rest = starts_with010 (rest_behind r rest).groups
allowed r at-end b ds rest = eqb (length r.pairs) (length ds)

abbrev pub fits : Row → Bool → List Two → Rest → Bool
fits r b ds rest = starts two_number r.pairs ds && allowed r r.when b ds rest

abbrev pub no_row : Row
no_row = row [] [] always

-- the row tried k-th
abbrev pub row_at : ℕ → Row
row_at k = get_or rows k no_row

-- the first row that passes
abbrev pub choose : (Row → Bool) → List Row → Row
choose passes [] = no_row
choose passes (r ∷ rs) = cond (passes r) r (choose passes rs)

abbrev pub terminates : When → Bool
terminates always = false
terminates after_one = false
terminates after-zero = false
terminates before-010 = false
terminates at-end = true

abbrev pub word : Row → Rest → Modulated
word r rest = record { groups = r.groups ++ (rest_behind r rest).groups; terminated = terminates r.when || (rest_behind r rest).terminated }

-- the pairs that are left of a frame, of which the first k belong to the word before; b is the bit before
unfoldable pub modulate_from : List Two → ℕ → Bool → Modulated
modulate_from [] k b = record { groups = []; terminated = false }
modulate_from (d ∷ ds) (suc k) b = modulate_from ds k b
modulate_from (d ∷ ds) zero b = word (choose (λ r. fits r b (d ∷ ds) (modulate_from ds)) rows) (modulate_from ds)

-- the frame with the data bits ds, after the modulation bit b
abbrev pub modulate : Bool → List Two → Modulated
modulate b ds = modulate_from ds 0 b
