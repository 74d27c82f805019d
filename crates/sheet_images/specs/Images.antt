-- Document 02, W-211: no two clusters of a sheet have equal images.
use Rattle.std.specs.Prelude.{◌≡◌, ℕ, ◌<◌}
use Rattle.image.specs.Image.{Input, IsAccepted, image_bits, image}

-- an accepted input at the PSN of entry i; user bytes, side data, dc words and first # are free
pub record ClusterOf (psn : ℕ → ℕ) (i : ℕ) (input : Input) : Type 0 where
  pub accepted : IsAccepted input
  pub own : input.psn ≡ psn i

-- of two entries; in bits and in bytes
pub record ImagesApart (count : ℕ) (psn : ℕ → ℕ) : Type 0 where
  pub bits : (i j : ℕ) → i < count → j < count → (i ≡ j → ⊥) → (a b : Input) → ClusterOf psn i a → ClusterOf psn j b → image_bits a ≡ image_bits b → ⊥
  pub bytes : (i j : ℕ) → i < count → j < count → (i ≡ j → ⊥) → (a b : Input) → ClusterOf psn i a → ClusterOf psn j b → image a ≡ image b → ⊥
