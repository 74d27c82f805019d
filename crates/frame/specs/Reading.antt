-- A frame read strictly: the row and the dc word, if any, that give the 1,902 modulation bits behind its sync and # of the next sync.
use Rattle.std.specs.Prelude.{Bool, false, ◌&&◌, cond, List, ◌≡◌, ℕ, ◌^◌, ◌<◌, eqb, length, Option, Some, None}
use Rattle.std.specs.Bool.{beq}
use Rattle.laws.specs.Bytes.{Bytes}
use Rattle.bits.specs.Bits.{Bits}
use Rattle.modulation.specs.Modulation.{last_bit}
use Rattle.modulation.specs.Bits.{pairs, data_bits, groups, bits, Gives}
use Rattle.modulation.specs.Sync.{FS, sync_id}
use Rattle.modulation.specs.Stream.{modulated}
use Rattle.modulation.specs.Demodulator.{demodulate}
use Rattle.laws.specs.Same.{same}
use Rattle.frame_bits.specs.FrameBits.{row_from, dc_from}
use Rattle.frame.specs.Frame.{frame_pairs, next_hash}
use Rattle.sizes.specs.Sizes.{row_size}

-- the 1,268 bits b give the modulation bits m behind sync n, and # of the next sync
pub record BitsGive (n : FS) (b m : List ℕ) (hash : Bool) : Type 0 where
  pub size : length b ≡ 1268
  pub are-bits : Bits b
  pub gives : Gives (last_bit false (sync_id n)) (pairs b) m hash

-- row and dc word do
pub record RowGives (n : FS) (row : List ℕ) (dc : ℕ) (m : List ℕ) (hash : Bool) : Type 0 where
  pub size : length row ≡ row_size
  pub bytes : Bytes row
  pub small : dc < 2 ^ 28
  pub bits_are : bits (modulated n (frame_pairs row dc)).groups ≡ m
  pub next-is : next_hash n row dc ≡ hash

-- what is found in m and # of the next sync: a dc word, with its row in the slice, or that no 1,268 bits give them, with the slice as it was;
-- the reader then answers 11
pub record StrictlyRead (n : FS) (m : List ℕ) (hash : Bool) (before : List ℕ) (answer : Option ℕ) (after : List ℕ) : Type 0 where
  pub found : (dc : ℕ) → answer ≡ Some dc → RowGives n after dc m hash
  pub none : answer ≡ None → (after ≡ before) × ((b : List ℕ) → BitsGive n b m hash → ⊥)

-- ---- the same, computed

-- the data bits that the demodulator finds
unfoldable pub bits_read : FS → List ℕ → Bool → List ℕ
bits_read n m hash = data_bits (demodulate (last_bit false (sync_id n)) (record { groups = groups m; terminated = hash }))

-- they give m and #; if they do not, no 1,268 bits do (proofs/Reading: readable-iff)
unfoldable pub readable : FS → List ℕ → Bool → Bool
readable n m hash =
    let f = modulated n (pairs (bits_read n m hash)) in
    eqb (length m) 1902 && (same (bits f.groups) m && beq f.terminated hash)

-- the reader's answer, and the row's slice behind it
unfoldable pub frame_read : FS → List ℕ → Bool → Option ℕ
frame_read n m hash = cond (readable n m hash) (Some (dc_from (bits_read n m hash))) None

unfoldable pub row_left : FS → List ℕ → Bool → List ℕ → List ℕ
row_left n m hash before = cond (readable n m hash) (row_from (bits_read n m hash)) before
