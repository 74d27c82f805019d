-- A frame taken out of words.
use Rattle.std.specs.Prelude.{List, ◌≡◌, ℕ, Option, Some, None, IfSome, IfNone}
use Rattle.modulation.specs.steps.Words.{bits_in}
use Rattle.frame_bits.specs.FrameBits.{row_from, dc_from}

-- the frame that stands in words, if there are any
pub record Taken (words : Option (List ℕ)) (before : List ℕ) (answer : Option ℕ) (after : List ℕ) : Type 0 where
  pub there : IfSome words (λ ws. (answer ≡ Some (dc_from (bits_in ws))) × (after ≡ row_from (bits_in ws)))
  pub none : IfNone words ((answer ≡ None) × (after ≡ before))
