-- 13.17: a modulated recording frame, 30 bits of frame sync and 1,902 modulation bits.
use Rattle.std.specs.Prelude.{Bool, List, ◌++◌, ℕ}
use Rattle.modulation.specs.Modulation.{Two, Three}
use Rattle.modulation.specs.Bits.{pairs, bits}
use Rattle.modulation.specs.Sync.{FS, sync}
use Rattle.modulation.specs.Stream.{modulated}
use Rattle.frame_bits.specs.FrameBits.{frame_bits}

-- the data bits of a frame, two by two
abbrev pub frame_pairs : List ℕ → ℕ → List Two
frame_pairs row dc = pairs (frame_bits row dc)

-- the frame behind sync number n, whose # is given
abbrev pub frame_groups : Bool → FS → List ℕ → ℕ → List Three
frame_groups hash n row dc = sync hash n ++ (modulated n (frame_pairs row dc)).groups

-- its 1,932 bits
unfoldable pub frame : Bool → FS → List ℕ → ℕ → List ℕ
frame hash n row dc = bits (frame_groups hash n row dc)

-- # of the sync that follows
abbrev pub next_hash : FS → List ℕ → ℕ → Bool
next_hash n row dc = (modulated n (frame_pairs row dc)).terminated
