-- Frame syncs by number, and as they are read (13.17.4, Figures 39 and 41).
use Rattle.std.specs.Prelude.{Bool, List, [], ◌∷◌, ℕ, ◌*◌, ◌-◌, ◌/◌, ◌%◌, ◌^◌, eqb, get_or, take, drop}
use Rattle.modulation.specs.Bits.{bits}
use Rattle.modulation.specs.Sync.{FS, FS0, FS1, FS2, FS3, FS4, FS5, FS6, sync}
use Rattle.laws.specs.Same.{same}

-- the frame sync of a number
unfoldable pub fs : ℕ → FS
fs number = get_or (FS0 ∷ FS1 ∷ FS2 ∷ FS3 ∷ FS4 ∷ FS5 ∷ FS6 ∷ []) number FS0

-- the number of a frame sync
abbrev pub fs_number : FS → ℕ
fs_number FS0 = 0
fs_number FS1 = 1
fs_number FS2 = 2
fs_number FS3 = 3
fs_number FS4 = 4
fs_number FS5 = 5
fs_number FS6 = 6

-- group j of a number of 30 bits
abbrev pub group_of : ℕ → ℕ → ℕ
group_of word j = word / 2 ^ (27 - 3 * j) % 8

-- # of the sync from bit `at` on
abbrev pub hash_at : List ℕ → ℕ → Bool
hash_at b at = eqb (get_or b at 0) 1

-- the 30 bits from `at` on are sync n, with # as it stands there
unfoldable pub sync_right : FS → List ℕ → ℕ → Bool
sync_right n b at = same (take 30 (drop at b)) (bits (sync (hash_at b at) n))
