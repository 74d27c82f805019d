-- Document 02, W-210: sums of sectors. What error-detection code, parity, scrambling and LDC cluster make of lists of equal length, combined by
-- exclusive or. The statements hold of any lists of numbers; `Bytes` stands where bytes are needed.
use Rattle.std.specs.Prelude.{◌≡◌, List, ℕ, ◌<◌, ◌≤◌, length}
use Rattle.std.specs.Int.Bits.{bit_xor}
use Rattle.laws.specs.Bytes.{Bytes}
use Rattle.laws.specs.Combined.{combined}
use Rattle.edc.specs.Edc.{edc_of, edc_bytes}
use Rattle.column.specs.Column.{IsParity, parity}
use Rattle.scrambling.specs.Scrambling.{scrambling_of, scrambled}
use Rattle.sector.specs.DataFrame.{data_frame, sector_frame}
use Rattle.ldc.specs.LdcBlock.{information, code_word}
use Rattle.ldc.specs.LdcCluster.{ldc_byte}

-- of any two lists of equal length, combined, what f makes is the combination of what it makes of each
abbrev pub IsLinear : (List ℕ → List ℕ) → Type 0
IsLinear f = (a b : List ℕ) → length a ≡ length b → f (combined a b) ≡ combined (f a) (f b)

-- 13.3: the error-detection code, as a number and as four bytes; with it the data frame (13.2)
pub record EdcLinear : Type 0 where
  pub numbers : (a b : List ℕ) → length a ≡ length b → edc_of (combined a b) ≡ bit_xor (edc_of a) (edc_of b)
  pub four-bytes : IsLinear edc_bytes
  pub data-frames : IsLinear data_frame

-- 13.7, 13.12, and 13.9.2.2 before its inversion: the parity of a column with r roots; the same, said of the only r bytes that give it its roots
pub record ParityLinear : Type 0 where
  pub parities : (r : ℕ) → IsLinear (parity r)
  pub by-roots : (r : ℕ) → r ≤ 255 → (a b p q : List ℕ) → Bytes a → Bytes b → length a ≡ length b → IsParity r a p → IsParity r b q
      → IsParity r (combined a b) (combined p q)

-- 13.4, of frames under one PSN
pub record ScramblingDropsOut (psn : ℕ) : Type 0 where
  -- scrambled frames combine to what the plain ones combine to
  pub frames : (f g : List ℕ) → length f ≡ length g → combined (scrambled (scrambling_of psn) f) (scrambled (scrambling_of psn) g) ≡ combined f g
  -- so scrambling is its own inverse
  pub undone : (f : List ℕ) → scrambled (scrambling_of psn) (scrambled (scrambling_of psn) f) ≡ f
  -- and a sum scrambled is one part scrambled and the other plain, combined
  pub one-part : (f g : List ℕ) → length f ≡ length g → scrambled (scrambling_of psn) (combined f g) ≡ combined (scrambled (scrambling_of psn) f) g
  -- of two sectors: the plain data frame of the sectors combined
  pub sectors : (u v : List ℕ) → length u ≡ length v → combined (sector_frame psn u) (sector_frame psn v) ≡ data_frame (combined u v)

-- of 32 data frames each, those of h are those of f and g, of equal lengths, combined
pub record CombinedFrames (f g h : ℕ → List ℕ) : Type 0 where
  pub same_length : (F : ℕ) → F < 32 → length (f F) ≡ length (g F)
  pub combination : (F : ℕ) → F < 32 → h F ≡ combined (f F) (g F)

-- 13.5 to 13.8: data block, code words and LDC cluster of data frames as they are given, scrambled or not
pub record LdcLinear (f g h : ℕ → List ℕ) : Type 0 where
  pub data-block : (L : ℕ) → L < 304 → information h L ≡ combined (information f L) (information g L)
  pub code-words : (L : ℕ) → L < 304 → code_word h L ≡ combined (code_word f L) (code_word g L)
  pub cluster : (row column : ℕ) → ldc_byte h row column ≡ bit_xor (ldc_byte f row column) (ldc_byte g row column)
