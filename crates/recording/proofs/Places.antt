-- Places in a recording that starts at bit `at` of the bits b. Assumes nothing.
use mathlib.Core.Path.{◌≡◌, ap}
use mathlib.Core.List.{List}
use Prim.Native.Nat.{ℕ, ◌+◌}
use lib.Dec.{eqb}
use lib.ListN.{take, drop}
use lib.Seq.{get_or-drop, drop-drop}
use Rattle.modulation.specs.Sync.{FS}
use Rattle.frame_sync.specs.Sync.{hash_at, sync_right}

module _ (b : List ℕ) (at p : ℕ) where
  pub hash-behind : hash_at (drop at b) p ≡ hash_at b (at + p)
  hash-behind = ap (λ (x : ℕ). eqb x 1) (get_or-drop at b p 0)

  pub sync-behind : (n : FS) → sync_right n (drop at b) p ≡ sync_right n b (at + p)
  unfolding sync_right
  sync-behind n = rw (drop-drop p at b, get_or-drop at b p 0)

  pub bits-behind : (m : ℕ) → take m (drop p (drop at b)) ≡ take m (drop (at + p) b)
  bits-behind m = ap (take m) (drop-drop p at b)
