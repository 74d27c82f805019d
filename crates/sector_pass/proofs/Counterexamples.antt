-- What the must-fail edit of specs/Pass states is false: the remainder of the byte 01h is not that of no byte. Assumes nothing.
use mathlib.Core.Path.{◌≡◌}
use mathlib.Core.List.{[], ◌∷◌}
use native.Mathlib.Omega.{arith}
use lib.ListN.{take}
use Rattle.laws.specs.Tabulate.{tabulate}
use Rattle.bits.specs.Bits.{bits_of}
use Rattle.edc.specs.Edc.{divided, remainder_by_g, edc_of}

pub one-byte-less : edc_of (take 1 (1 ∷ [])) ≡ edc_of (take 0 (1 ∷ [])) → ⊥
unfolding edc_of remainder_by_g divided bits_of tabulate
one-byte-less e = omega (arith, e)
