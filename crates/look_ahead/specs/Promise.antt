-- Document 02, W-212: what is promised of the number that a frame gets.
use Rattle.std.specs.Prelude.{◌≡◌, ◌↔◌, Bool, List, ℕ, ◌*◌, ◌<◌, ◌≤◌, length}
use Rattle.sizes.specs.Sizes.{row_size}
use Rattle.modulation.specs.Bits.{pairs}
use Rattle.frame_bits.specs.FrameBits.{frame_bits}
use Rattle.word_needs.specs.Promise.{farthest, Most}

-- the number of bytes, and the dc word
pub record RightFrame (size dc : ℕ) : Type 0 where
  pub row : size ≡ row_size
  pub dc-word : dc ≤ 0x0FFF_FFFF

-- after both bits, no word of the frame needs more than these bits, and one needs them
pub record MostBits (row : List ℕ) (dc bits : ℕ) : Type 0 where
  pub count : ℕ
  pub twice : bits ≡ 2 * count
  pub most : (b : Bool) → Most b (pairs (frame_bits row dc)) count

-- number, place and bits for a frame
pub record ReportsExactly (row : List ℕ) (dc number place bits : ℕ) : Type 0 where
  pub zero-iff : (number ≡ 0) ↔ RightFrame (length row) dc
  pub reported : number ≡ 0 → MostBits row dc bits × ((2 ≤ bits) × (bits ≤ farthest))
  pub other-size : (length row ≡ row_size → ⊥) → number ≡ 21
  pub large-word : length row ≡ row_size → 0x0FFF_FFFF < dc → number ≡ 8
  pub no_place : place ≡ 0
  pub refused : (number ≡ 0 → ⊥) → bits ≡ 0
