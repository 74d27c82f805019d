-- Document 02, W-212: how many bits of a frame, from a word's start on, its modulation bits need. Counted in pairs.
use Rattle.std.specs.Prelude.{Bool, false, ◌&&◌, List, [], ◌∷◌, ◌++◌, ℕ, zero, suc, ◌-◌, max, length, take}
use Rattle.laws.specs.First.{first}
use Rattle.laws.specs.Same.{same}
use Rattle.modulation.specs.Modulation.{Two, d00, d01, d10, d11, Row, rows, no_row, fits, choose, last_bit, modulate_from}
use Rattle.modulation.specs.Bits.{bits}

-- ---- a word

-- the row that is taken at a word's start, after the bit b, with the pairs ds left of the frame
abbrev pub row_taken : Bool → List Two → Row
row_taken b [] = no_row
row_taken b (d ∷ ds) = choose (λ r. fits r b (d ∷ ds) (modulate_from ds)) rows

-- the word's modulation bits
abbrev pub word_bits : Bool → List Two → List ℕ
word_bits b ds = bits (row_taken b ds).groups

-- ---- what it needs

-- every list of n pairs passes
unfoldable pub every : ℕ → (List Two → Bool) → Bool
every zero passes = passes []
every (suc n) passes =
    every n (λ l. passes (d00 ∷ l)) && (every n (λ l. passes (d01 ∷ l)) && (every n (λ l. passes (d10 ∷ l)) && every n (λ l. passes (d11 ∷ l))))

-- the first k pairs fix the word: every continuation of them up to the frame's end, as many pairs as are left, gives it the same modulation bits
unfoldable pub fixed_by : Bool → List Two → ℕ → Bool
fixed_by b ds k = every (length ds - k) (λ more. same (word_bits b (take k ds ++ more)) (word_bits b ds))

-- the least number of pairs that fix the word; all that are left do
unfoldable pub needed : Bool → List Two → ℕ
needed b ds = first (length ds) (fixed_by b ds)

-- ---- the words of a frame

-- where a word begins: the bit before it, and the pairs that are left of the frame
pub record WordStart : Type 0 where
  pub bit : Bool
  pub left : List Two

-- the words that begin in ds, of which the first k pairs belong to the word before; b is the bit before
unfoldable pub starts_from : List Two → ℕ → Bool → List WordStart
starts_from [] k b = []
starts_from (d ∷ ds) (suc k) b = starts_from ds k b
starts_from (d ∷ ds) zero b =
    let r = row_taken b (d ∷ ds) in
    record { bit = b; left = d ∷ ds } ∷ starts_from ds (length r.pairs - 1) (last_bit false r.groups)

-- the words of the frame with the pairs ds, after the bit b
abbrev pub word_starts : Bool → List Two → List WordStart
word_starts b ds = starts_from ds 0 b

unfoldable pub most : List WordStart → ℕ
most [] = 0
most (s ∷ l) = max (needed s.bit s.left) (most l)

-- the most that any word of the frame needs
abbrev pub most_needed : Bool → List Two → ℕ
most_needed b ds = most (word_starts b ds)
