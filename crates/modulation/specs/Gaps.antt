-- Gaps between neighbouring ones of a list of bits (13.17.1), and the two long ones of each frame sync (13.17.4).
use Rattle.std.specs.Prelude.{List, [], ◌∷◌, ◌⊎◌, ◌≡◌, ℕ, ◌+◌, ◌%◌, ◌<◌, ◌≤◌, get_or, take, drop}
use Rattle.sizes.specs.Sizes.{frame_size}

-- ones stand at i and at j, and zeros between them
pub record Neighbours (l : List ℕ) (i j : ℕ) : Type 0 where
  pub before : i < j
  pub one-i : get_or l i 0 ≡ 1
  pub one-j : get_or l j 0 ≡ 1
  pub zeros : (k : ℕ) → i < k → k < j → get_or l k 0 ≡ 0

-- the sync whose first bit is s has ones at its bits 4, 13 and 22 and zeros between: two gaps of 8
pub record LongGaps (l : List ℕ) (s : ℕ) : Type 0 where
  pub first : Neighbours l (s + 4) (s + 13)
  pub second : Neighbours l (s + 13) (s + 22)

-- the gap between neighbours at i and j has 8 zeros and ends where a long one is permitted, or it has 1 to 7
abbrev pub Gap : (ℕ → Type 0) → ℕ → ℕ → Type 0
Gap Permitted i j = (Permitted j × (j ≡ i + 9)) ⊎ ((i + 2 ≤ j) × (j ≤ i + 8))

-- every gap is one of these
abbrev pub Spaced : (ℕ → Type 0) → List ℕ → Type 0
Spaced Permitted l = (i j : ℕ) → Neighbours l i j → Gap Permitted i j

-- in a run of frames, each 1,932 bits with its sync: a sync's long gap ends at j
abbrev pub EndsLong : ℕ → Type 0
EndsLong j = (j % frame_size ≡ 13) ⊎ (j % frame_size ≡ 22)

-- no 15 bits read 101010101010101: no seven gaps of a single zero follow one another
abbrev pub NoSeven : List ℕ → Type 0
NoSeven l = (i : ℕ) → take 15 (drop i l) ≡ 1 ∷ 0 ∷ 1 ∷ 0 ∷ 1 ∷ 0 ∷ 1 ∷ 0 ∷ 1 ∷ 0 ∷ 1 ∷ 0 ∷ 1 ∷ 0 ∷ 1 ∷ [] → ⊥
