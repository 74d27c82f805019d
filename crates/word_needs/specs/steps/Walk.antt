-- A word pair by pair, as it is computed: a pair behind those that wait fixes the word, or waits too. It gives what the definition says
-- (proofs/Walk: walk_is).
use Rattle.std.specs.Prelude.{Bool, false, cond, List, [], ◌∷◌, ℕ, suc, ◌+◌, ltb, length}
use Rattle.modulation.specs.Modulation.{Two, d00, d01, d10, d11}
use Rattle.modulation.specs.Machine.{Wait, w, w00, w0000, w000000, w000010, w11, w1101, w110111, w11011100, w1101110000, wait_number}

-- these wait, or the word is fixed and has so many pairs
pub data Told : Type 0 where
  wait : Wait → Told
  word_of : ℕ → Told

abbrev pub told : Wait → Two → Told
told w d00 = wait w00
told w d01 = word_of 1
told w d10 = word_of 1
told w d11 = wait w11
told w00 d00 = wait w0000
told w00 d01 = word_of 2
told w00 d10 = word_of 2
told w00 d11 = word_of 2
told w0000 d00 = wait w000000
told w0000 d01 = word_of 3
told w0000 d10 = wait w000010
told w0000 d11 = word_of 3
told w000000 d00 = word_of 4
told w000000 d01 = word_of 3
told w000000 d10 = word_of 3
told w000000 d11 = word_of 3
told w000010 d00 = word_of 4
told w000010 d01 = word_of 3
told w000010 d10 = word_of 3
told w000010 d11 = word_of 3
told w11 d00 = word_of 1
told w11 d01 = wait w1101
told w11 d10 = word_of 1
told w11 d11 = word_of 1
told w1101 d00 = word_of 1
told w1101 d01 = word_of 1
told w1101 d10 = word_of 1
told w1101 d11 = wait w110111
told w110111 d00 = wait w11011100
told w110111 d01 = word_of 3
told w110111 d10 = word_of 1
told w110111 d11 = word_of 1
told w11011100 d00 = wait w1101110000
told w11011100 d01 = word_of 1
told w11011100 d10 = word_of 3
told w11011100 d11 = word_of 3
told w1101110000 d00 = word_of 3
told w1101110000 d01 = word_of 3
told w1101110000 d10 = word_of 1
told w1101110000 d11 = word_of 1

-- the frame ends with what waits: the word's pairs
abbrev pub size_at_end : Wait → ℕ
size_at_end w = 0
size_at_end w00 = 1
size_at_end w0000 = 2
size_at_end w000000 = 3
size_at_end w000010 = 3
size_at_end w11 = 1
size_at_end w1101 = 1
size_at_end w110111 = 1
size_at_end w11011100 = 1
size_at_end w1101110000 = 3

-- the pairs that a word needs, and those that it has
pub record Walked : Type 0 where
  pub needs : ℕ
  pub size : ℕ

abbrev pub walked : ℕ → ℕ → Walked
walked n m = record { needs = n; size = m }

abbrev pub onward : Told → ℕ → (Wait → Walked) → Walked
onward (wait s) n rest = rest s
onward (word_of m) n rest = walked (suc n) m

-- n pairs wait, these; ds are behind them
abbrev pub walk : Wait → ℕ → List Two → Walked
walk s n [] = walked n (size_at_end s)
walk s n (d ∷ ds) = onward (told s d) n (λ t. walk t (suc n) ds)

-- 11 with two pairs or fewer behind it: it is not substituted, whatever they are
abbrev pub ends_plain : List Two → Bool
ends_plain [] = false
ends_plain (d00 ∷ ds) = false
ends_plain (d01 ∷ ds) = false
ends_plain (d10 ∷ ds) = false
ends_plain (d11 ∷ ds) = ltb (length ds) 3

-- the word at the front of ds
abbrev pub walk_word : List Two → Walked
walk_word ds = cond (ends_plain ds) (walked 1 1) (walk w 0 ds)

-- ---- as numbers

-- below 10 what waits; above it the word's pairs
abbrev pub told_number : Told → ℕ
told_number (wait s) = wait_number s
told_number (word_of m) = 10 + m
