-- What is promised of writing: the number is 0 for a well-formed cluster and for nothing else, and then its image is written (demands 1 and 2).
use Rattle.std.specs.Prelude.{◌≡◌, ◌↔◌, List, ℕ, length}
use Rattle.lengths.specs.Lengths.{RightLengths}
use Rattle.image.specs.Image.{Input, IsAccepted, cluster, image}
use Rattle.sizes.specs.Sizes.{image_size}

-- an accepted input, and all slices have their lengths
pub record WellFormed (input : Input) (before work : List ℕ) : Type 0 where
  pub accepted : IsAccepted input
  pub lengths : RightLengths (length input.user) (length input.side) (length input.dc) (length work)
  pub image-size : length before ≡ image_size

-- the number returned; the two lent slices were `before` and `work`, and are `after` and `made`
pub record WritesExactly (input : Input) (before work : List ℕ) (number : ℕ) (after made : List ℕ) : Type 0 where
  pub zero-iff : (number ≡ 0) ↔ WellFormed input before work
  pub image-is : number ≡ 0 → after ≡ image input
  pub work-is : number ≡ 0 → made ≡ cluster input
