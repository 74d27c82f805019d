-- What is read in the bits b of a recording, from its first bit on: answers 10 (document 01, W-201) and 11, the first #, the ECC cluster and the dc
-- words.
use Rattle.std.specs.Prelude.{Bool, not, List, ℕ, ◌+◌, ◌*◌, ◌/◌, ◌%◌, get_or, take, drop}
use Rattle.laws.specs.First.{first}
use Rattle.laws.specs.Tabulate.{tabulate}
use Rattle.modulation.specs.Sync.{sync_number}
use Rattle.frame_bits.specs.FrameBits.{row_from, dc_from}
use Rattle.frame_sync.specs.Sync.{hash_at, sync_right}
use Rattle.frame.specs.Reading.{bits_read, readable}
use Rattle.sizes.specs.Sizes.{work_size, frame_count, frame_size, row_size}

-- ---- 10: the lowest frame whose sync is wrong, or 497; # is judged at no frame

unfoldable pub wrong_sync : List ℕ → ℕ → Bool
wrong_sync b n = not (sync_right (sync_number n) b (frame_size * n))

unfoldable pub first_wrong_sync : List ℕ → ℕ
first_wrong_sync b = first 497 (wrong_sync b)

-- ---- 11: the lowest frame that no 1,268 bits give together with # of the next sync, or 496

-- the 1,902 modulation bits behind the sync of frame n, and # of the sync behind them
abbrev pub modulated_at : List ℕ → ℕ → List ℕ
modulated_at b n = take 1902 (drop (frame_size * n + 30) b)

abbrev pub hash_behind : List ℕ → ℕ → Bool
hash_behind b n = hash_at b (frame_size * (n + 1))

-- no such bits exist exactly where this test says so (proofs/Statements: no-frame-iff)
unfoldable pub no_frame : List ℕ → ℕ → Bool
no_frame b n = not (readable (sync_number n) (modulated_at b n) (hash_behind b n))

unfoldable pub first_no_frame : List ℕ → ℕ
first_no_frame b = first frame_count (no_frame b)

-- ---- # of the sync of frame 0, as it stands there

abbrev pub first_hash : List ℕ → Bool
first_hash b = hash_at b 0

-- ---- the ECC cluster, row by row, and the dc words

-- the 1,268 bits of frame n, the only ones that give it (proofs/Statements: only-bits)
abbrev pub frame_bits_in : List ℕ → ℕ → List ℕ
frame_bits_in b n = bits_read (sync_number n) (modulated_at b n) (hash_behind b n)

abbrev pub cluster_byte : List ℕ → ℕ → ℕ
cluster_byte b k = get_or (row_from (frame_bits_in b (k / row_size))) (k % row_size) 0

unfoldable pub cluster_in : List ℕ → List ℕ
cluster_in b = tabulate work_size (cluster_byte b)

abbrev pub dc_word_in : List ℕ → ℕ → ℕ
dc_word_in b n = dc_from (frame_bits_in b n)

unfoldable pub dc_in : List ℕ → List ℕ
dc_in b = tabulate frame_count (dc_word_in b)
