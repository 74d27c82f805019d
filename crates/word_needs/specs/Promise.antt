-- Document 02, W-212: what is promised of the number that a word needs, and of the most that any does.
use Rattle.std.specs.Prelude.{◌≡◌, Bool, false, List, [], ◌∷◌, ◌++◌, ℕ, ◌<◌, ◌≤◌, length, get_or, take}
use Rattle.modulation.specs.Modulation.{Two}
use Rattle.modulation.specs.Bits.{pairs}
use Rattle.word_needs.specs.Needed.{word_bits, WordStart, word_starts}

-- how far ahead of its start a word's modulation bits reach, in bits
abbrev pub farthest : ℕ
farthest = 12

-- the bit before and n bits from the word's start on, or all where the frame has fewer, fix its modulation bits
pub record ReachAtMost (n : ℕ) : Type 0 where
  pub fixed : (b : Bool) (l m : List ℕ) → take n l ≡ take n m → word_bits b (pairs l) ≡ word_bits b (pairs m)

-- ---- what a word needs

-- whatever is left of a frame, if it is as much and begins with the same k pairs, the word has the same modulation bits
pub record Fixes (b : Bool) (ds : List Two) (k : ℕ) : Type 0 where
  pub same_bits : (es : List Two) → length es ≡ length ds → take k es ≡ take k ds → word_bits b es ≡ word_bits b ds

-- k pairs fix the word, and fewer do not
pub record Needs (b : Bool) (ds : List Two) (k : ℕ) : Type 0 where
  pub fixes : Fixes b ds k
  pub least : (j : ℕ) → j < k → Fixes b ds j → ⊥

-- ---- the words of a frame

-- the words' modulation bits, one behind the other
unfoldable pub words_bits : List WordStart → List ℕ
words_bits [] = []
words_bits (s ∷ l) = word_bits s.bit s.left ++ words_bits l

-- where no word begins
abbrev pub nowhere : WordStart
nowhere = record { bit = false; left = [] }

abbrev pub start_at : Bool → List Two → ℕ → WordStart
start_at b ds i = get_or (word_starts b ds) i nowhere

-- no word of the frame needs more than k pairs, and one needs them
pub record Most (b : Bool) (ds : List Two) (k : ℕ) : Type 0 where
  pub bound : (i : ℕ) → i < length (word_starts b ds) → (n : ℕ) → Needs (start_at b ds i).bit (start_at b ds i).left n → n ≤ k
  pub met : (i : ℕ) × ((i < length (word_starts b ds)) × Needs (start_at b ds i).bit (start_at b ds i).left k)
