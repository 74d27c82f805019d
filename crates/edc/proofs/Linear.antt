-- The error-detection code of combined bytes is the combination of their codes. Assumes nothing.
use mathlib.Core.Path.{◌≡◌, sym, ap, subst, ◌∙◌}
use mathlib.Core.List.{List}
use Prim.Native.Nat.{ℕ, ◌*◌, ◌^◌}
use lib.Bits.{bit_xor}
use lib.ListN.{length}
use Rattle.laws.specs.Combined.{combined}
use Rattle.laws.proofs.Xor.{xor-scaled}
use Rattle.bits.specs.Bits.{bits_of, number}
use Rattle.bits.proofs.Combined.{number-combined}
use Rattle.big_endian.specs.Words.{four_bytes}
use Rattle.big_endian.proofs.Words.{four-combined}
use Rattle.edc.specs.Edc.{edc_of, edc_bytes}
use Rattle.edc.proofs.Division.{Leaves, leaves-add, leaves-one}
use Rattle.edc.proofs.Detection.{edc-leaves}

module _ (a b : List ℕ) (same : length a ≡ length b) where
  -- I(x) of both is the sum of the two, and so is what it leaves
  pub edc-combined : edc_of (combined a b) ≡ bit_xor (edc_of a) (edc_of b)
  edc-combined =
      let sum : bit_xor (number (bits_of a) * 2 ^ 32) (number (bits_of b) * 2 ^ 32) ≡ number (bits_of (combined a b)) * 2 ^ 32 =
      sym (ap (λ (n : ℕ). n * 2 ^ 32) (number-combined a b same) ∙ xor-scaled (number (bits_of a)) (number (bits_of b)) 32) in
      leaves-one (edc-leaves (combined a b)) (subst (λ (p : ℕ). Leaves p (bit_xor (edc_of a) (edc_of b))) sum (leaves-add (edc-leaves a) (edc-leaves b)))

  pub edc-bytes-combined : edc_bytes (combined a b) ≡ combined (edc_bytes a) (edc_bytes b)
  unfolding edc_bytes
  edc-bytes-combined = ap four_bytes edc-combined ∙ four-combined (edc_of a) (edc_of b)
