-- 13.16, 13.17.4: a run of recording frames, each behind its frame sync, and the sync that follows (14.2.3.2). # of the first sync is free
-- (14.2.2.4), # of each other says how the frame before it ended.
use Rattle.std.specs.Prelude.{Bool, false, List, [], ◌++◌, ◌≡◌, ℕ, zero, suc, ◌<◌, length}
use Rattle.modulation.specs.Modulation.{Two, Three, Modulated, modulate, last_bit}
use Rattle.modulation.specs.Sync.{FS, sync, sync_id}

-- # of the first sync; of frame k the number of its sync and its data bits
pub record Recording : Type 0 where
  pub first : Bool
  pub number : ℕ → FS
  pub frames : ℕ → List Two

-- a frame behind sync n: the bit before it is the sync's last
abbrev pub modulated : FS → List Two → Modulated
modulated n ds = modulate (last_bit false (sync_id n)) ds

-- # of the sync of frame k
abbrev pub hash : Recording → ℕ → Bool
hash c zero = c.first
hash c (suc k) = (modulated (c.number k) (c.frames k)).terminated

-- frame k with its sync
abbrev pub recorded : Recording → ℕ → List Three
recorded c k = sync (hash c k) (c.number k) ++ (modulated (c.number k) (c.frames k)).groups

-- frames 0 to n - 1
unfoldable pub run : Recording → ℕ → List Three
run c zero = []
run c (suc k) = run c k ++ recorded c k

-- n frames and the sync that follows
abbrev pub stream : Recording → ℕ → List Three
stream c n = run c n ++ sync (hash c n) (c.number n)

-- each of n frames has 1,268 data bits
abbrev pub Full : Recording → ℕ → Type 0
Full c n = (k : ℕ) → k < n → length (c.frames k) ≡ 634
