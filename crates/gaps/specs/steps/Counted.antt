-- What a step of counting leaves.
use Rattle.std.specs.Prelude.{List, ◌∷◌, ◌≡◌, ℕ, suc, ◌+◌, ◌<◌, ◌≤◌, length, get_or}
use Rattle.gaps.specs.Gaps.{gaps_after, count}

-- a bit more is counted, behind `zeros` zeros; r zeros are the beginning of the next gap
pub record BitCounted (bit zeros : ℕ) (before after : List ℕ) (r : ℕ) : Type 0 where
  pub size : length after ≡ length before
  pub zeros-are : r ≤ zeros + 1
  pub most : (k : ℕ) → get_or after k 0 ≤ get_or before k 0 + 1
  pub counts-are : (l : List ℕ) (k : ℕ) → k < 8 → get_or after k 0 + count (suc k) (gaps_after r l) ≡ get_or before k 0 + count (suc k) (gaps_after zeros (bit ∷ l))

-- no count exceeds m
pub record Counts (m : ℕ) (counts : List ℕ) : Type 0 where
  pub size : length counts ≡ 8
  pub most : (k : ℕ) → get_or counts k 0 ≤ m
