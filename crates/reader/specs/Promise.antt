-- What is promised of reading: the number is 0 only for the image of what is returned, and always for an accepted input's image (demands 1 and 2).
use Rattle.std.specs.Prelude.{◌≡◌, Bool, List, ℕ, length}
use Rattle.lengths.specs.Lengths.{RightLengths}
use Rattle.image.specs.Image.{Input, IsAccepted, cluster, image}
use Rattle.reader.specs.Outcome.{Lent}

-- the lent slices have their lengths
abbrev pub RightSlices : Lent → Type 0
RightSlices lent = RightLengths (length lent.user) (length lent.side) (length lent.dc) (length lent.work)

-- what is returned, as an input
abbrev pub as_input : ℕ → Bool → Lent → Input
as_input psn first lent = record { user = lent.user; psn = psn; side = lent.side; dc = lent.dc; first = first }

-- it is accepted, the image is its image, and work its ECC cluster
pub record IsReturned (l : List ℕ) (psn : ℕ) (first : Bool) (lent : Lent) : Type 0 where
  pub accepted : IsAccepted (as_input psn first lent)
  pub image-is : l ≡ image (as_input psn first lent)
  pub work-is : lent.work ≡ cluster (as_input psn first lent)

-- l is the image; number, PSN and first # that are returned; the lent slices, which were `before`
pub record ReadsExactly (l : List ℕ) (before : Lent) (number psn : ℕ) (first : Bool) (lent : Lent) : Type 0 where
  pub only : number ≡ 0 → IsReturned l psn first lent
  pub always : RightSlices before → (input : Input) → IsAccepted input → l ≡ image input → (number ≡ 0) × (as_input psn first lent ≡ input)
