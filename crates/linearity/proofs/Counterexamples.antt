-- What the must-fail edits of specs/Linearity state is false: an example against each. Assumes nothing.
use mathlib.Core.Path.{◌≡◌, refl, sym, ap, ◌∙◌}
use mathlib.Core.List.{List, [], ◌∷◌}
use Prim.Native.Nat.{ℕ}
use native.Mathlib.Omega.{arith}
use lib.Bits.{bit_xor}
use lib.ListN.{get_or}
use Rattle.laws.specs.Combined.{combined}
use Rattle.laws.specs.Tabulate.{tabulate}
use Rattle.laws.proofs.Combined.{get_d-combined}
use Rattle.laws.proofs.Tabulate.{get_d_tabulate}
use Rattle.bits.specs.Bits.{bits_of}
use Rattle.edc.specs.Edc.{divided, remainder_by_g, edc_of, edc_bytes}
use Rattle.scrambling.specs.Scrambling.{register, scrambling_byte, scrambling_of, scrambled}
use Rattle.scrambling.proofs.Stream.{length-scrambled, get_d-scrambled}
use Rattle.ldc.specs.LdcCluster.{ldc_byte}
use Rattle.ldc.proofs.CodeWords.{get_d-word}
use Rattle.linearity.specs.Linearity.{CombinedFrames}

-- frames of one byte
abbrev frame0 : List ℕ
frame0 = 0 ∷ []

abbrev frame1 : List ℕ
frame1 = 1 ∷ []

-- one frame left plain: the first scrambling byte of PSN 32 is 1
pub one-frame-plain : combined (scrambled (scrambling_of 32) frame0) frame0 ≡ combined frame0 frame0 → ⊥
one-frame-plain e = absurd (omega (arith, sym first ∙ ap (λ (l : List ℕ). get_or l 0 0) e ∙ none))
  where
    plain : List ℕ
    plain = scrambled (scrambling_of 32) frame0

    byte : get_or (scrambling_of 32) 0 0 ≡ 1
    byte = unfold scrambling_of in get_d_tabulate 2052 (scrambling_byte 32) 0 0 (omega arith) ∙ unfold scrambling_byte register in refl

    first : get_or (combined plain frame0) 0 0 ≡ 1
    first =
        get_d-combined plain frame0 0 (length-scrambled (scrambling_of 32) frame0)
        ∙ ap (λ (x : ℕ). bit_xor x 0) (get_d-scrambled (scrambling_of 32) frame0 0 (omega arith) ∙ ap (bit_xor 0) byte)

    none : get_or (combined frame0 frame0) 0 0 ≡ 0
    none = unfold combined in refl

-- lists of other lengths
pub other-lengths : edc_bytes (combined frame1 []) ≡ combined (edc_bytes frame1) (edc_bytes []) → ⊥
unfolding combined edc_bytes edc_of remainder_by_g divided bits_of tabulate
other-lengths e = absurd (omega (arith, ap (λ (l : List ℕ). get_or l 0 0) e))

-- one cluster left out
pub frames-combined : CombinedFrames (λ F. frame0) (λ F. frame1) (λ F. frame1)
frames-combined = record { same_length = λ F h. refl; combination = λ F h. unfold combined in refl }

pub cluster-left-out : ldc_byte (λ F. frame1) 0 0 ≡ ldc_byte (λ F. frame0) 0 0 → ⊥
cluster-left-out e = absurd (omega (arith, sym (get_d-word (λ F. frame1) 0 0 (omega arith)) ∙ e ∙ get_d-word (λ F. frame0) 0 0 (omega arith)))
