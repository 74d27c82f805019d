-- What tests 10 and 11 mean. Assumes nothing.
use mathlib.Core.Path.{◌≡◌, refl, sym, ap, ◌∙◌}
use mathlib.Core.Logic.{◌↔◌}
use mathlib.Core.Bool.{Bool, true, false, not}
use mathlib.Core.List.{List}
use Prim.Native.Nat.{ℕ, ◌*◌}
use native.Mathlib.Omega.{arith}
use borrow.Author.Tests.{not-true, not-false}
use lib.ListN.{take, drop}
use Rattle.modulation.specs.Bits.{bits}
use Rattle.modulation.specs.Sync.{sync, sync_number}
use Rattle.frame_sync.specs.Sync.{hash_at}
use Rattle.frame_sync.proofs.SyncRight.{sync-as-read, sync-is-right}
use Rattle.frame.specs.Reading.{BitsGive, readable}
use Rattle.frame.proofs.Reading.{bits-read, readable-iff}
use Rattle.recording.specs.Reading.{wrong_sync, modulated_at, hash_behind, no_frame, frame_bits_in}

-- ---- 11: the test fails exactly where no 1,268 bits give the frame and # of the next sync

pub no-frame-iff : (b : List ℕ) (n : ℕ) → (no_frame b n ≡ true) ↔ ((d : List ℕ) → BitsGive (sync_number n) d (modulated_at b n) (hash_behind b n) → ⊥)
unfolding no_frame
no-frame-iff b n = (
  λ e d g. let z : ◌≡◌ {A = Bool} true false = sym ((readable-iff _ _ _).1 (d, g)) ∙ not-true _ e in no_such z,
  λ none. by (readable (sync_number n) (modulated_at b n) (hash_behind b n)) refl none,
)
  where
    no_such : true ≡ false → ⊥
    no_such z = let k : ◌≡◌ {A = ℕ} 0 1 = cc in omega arith

    by : (t : Bool) → readable (sync_number n) (modulated_at b n) (hash_behind b n) ≡ t → ((d : List ℕ) → BitsGive (sync_number n) d (modulated_at b n) (hash_behind b n) → ⊥)
        → not (readable (sync_number n) (modulated_at b n) (hash_behind b n)) ≡ true
    by true e none = let some = (readable-iff (sync_number n) (modulated_at b n) (hash_behind b n)).0 e in absurd (none some.0 some.1)
    by false e none = ap not e

-- and where there are such bits, they are those that the cluster and the dc words are read from, and no others
pub only-bits : (b : List ℕ) (n : ℕ) (d : List ℕ) → BitsGive (sync_number n) d (modulated_at b n) (hash_behind b n) → d ≡ frame_bits_in b n
only-bits b n d g = bits-read (sync_number n) (modulated_at b n) (hash_behind b n) g

-- ---- 10: a sync is right exactly where its bits stand, with # of either value, at frame 0 as at the others

pub sync-iff : (b : List ℕ) (n : ℕ) → (wrong_sync b n ≡ false) ↔ ((hash : Bool) × (take 30 (drop (1932 * n) b) ≡ bits (sync hash (sync_number n))))
unfolding wrong_sync
sync-iff b n = (
  λ e. (hash_at b (1932 * n), sync-as-read (sync_number n) b (1932 * n) (not-false _ e)),
  λ some. ap not (sync-is-right (sync_number n) b (1932 * n) some.0 some.1),
)
