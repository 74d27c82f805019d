-- The LDC cluster of combined data frames is the combination of the LDC clusters. Assumes nothing.
use mathlib.Core.Path.{◌≡◌, sym, ap, ◌∙◌}
use mathlib.Core.List.{List, ◌++◌}
use Prim.Native.Nat.{ℕ, ◌+◌, ◌*◌, ◌/◌, ◌%◌, ◌<◌}
use native.Mathlib.Omega.{arith}
use lib.Bits.{bit_xor}
use lib.ListN.{length, get_or}
use Rattle.laws.specs.Combined.{combined}
use Rattle.laws.proofs.Combined.{get_d-combined, combined-append, combined-tabulate}
use Rattle.laws.proofs.Tabulate.{tabulate-ext}
use Rattle.column.specs.Column.{parity}
use Rattle.column.proofs.Linear.{parity-combined}
use Rattle.ldc.specs.LdcBlock.{data_byte, information, code_word}
use Rattle.ldc.specs.LdcCluster.{shifted, ldc_byte}
use Rattle.ldc.proofs.Interleaving.{shifted-word-lt}
use Rattle.ldc.proofs.CodeWords.{length-information, length-word}

-- the 32 data frames of h are those of f and g combined
module _
    (f g h : ℕ → List ℕ)
    (same_length : (F : ℕ) → F < 32 → length (f F) ≡ length (g F))
    (combination : (F : ℕ) → F < 32 → h F ≡ combined (f F) (g F))
  where
    byte-combined : (p : ℕ) → p < 65664 → data_byte h p ≡ bit_xor (data_byte f p) (data_byte g p)
    byte-combined p below =
        ap (λ (l : List ℕ). get_or l (p % 2052) 0) (combination (p / 2052) frame)
        ∙ get_d-combined (f (p / 2052)) (g (p / 2052)) (p % 2052) (same_length (p / 2052) frame)
      where
        frame : p / 2052 < 32
        frame = omega arith

    -- 13.5, 13.6: a column of the data block
    pub information-combined : (L : ℕ) → L < 304 → information h L ≡ combined (information f L) (information g L)
    unfolding information
    information-combined L below =
        tabulate-ext 0 216 (λ i. data_byte h (216 * L + i)) (λ i. bit_xor (data_byte f (216 * L + i)) (data_byte g (216 * L + i)))
        (λ i l. byte-combined (216 * L + i) (omega arith))
        ∙ sym (combined-tabulate 216 (λ i. data_byte f (216 * L + i)) (λ i. data_byte g (216 * L + i)))

    -- 13.7: a code word
    pub word-combined : (L : ℕ) → L < 304 → code_word h L ≡ combined (code_word f L) (code_word g L)
    unfolding code_word
    word-combined L below =
        ap (λ (m : List ℕ). m ++ parity 32 m) (information-combined L below)
        ∙ ap (◌++◌ (combined (information f L) (information g L))) (parity-combined 32 (information f L) (information g L) sizes)
        ∙ sym (combined-append (information f L) (information g L) (parity 32 (information f L)) (parity 32 (information g L)) sizes)
      where
        sizes : length (information f L) ≡ length (information g L)
        sizes = length-information f L ∙ sym (length-information g L)

    -- 13.8: a byte of the cluster
    pub ldc-combined : (row column : ℕ) → ldc_byte h row column ≡ bit_xor (ldc_byte f row column) (ldc_byte g row column)
    ldc-combined row column =
        let word = (shifted row column).word in
        let byte = (shifted row column).byte in
        ap (λ (l : List ℕ). get_or l byte 0) (word-combined word (shifted-word-lt row column))
        ∙ get_d-combined (code_word f word) (code_word g word) byte (length-word f word ∙ sym (length-word g word))
