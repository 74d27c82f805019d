-- The number that the bits of combined bytes make. Assumes nothing.
use mathlib.Core.Path.{◌≡◌, refl, sym, ap, ap₂, ◌∙◌}
use mathlib.Core.List.{List, [], ◌∷◌}
use Prim.Native.Nat.{ℕ, ◌+◌, ◌*◌, ◌%◌, ◌^◌}
use native.Mathlib.Nat.{suc_inj}
use native.Mathlib.Omega.{arith}
use lib.Bits.{bit_xor, xor_mod, xor_block}
use lib.ListN.{length}
use Rattle.laws.specs.Combined.{combined}
use Rattle.laws.specs.Tabulate.{tabulate}
use Rattle.laws.proofs.Combined.{length-combined}
use Rattle.bits.specs.Bits.{bits_of, number}
use Rattle.bits.proofs.Concat.{number-first, number-low}

pub number-combined : (a b : List ℕ) → length a ≡ length b → number (bits_of (combined a b)) ≡ bit_xor (number (bits_of a)) (number (bits_of b))
unfolding combined
number-combined [] [] e = unfold bits_of tabulate number in refl
number-combined [] (y ∷ b) e = absurd (omega arith)
number-combined (x ∷ a) [] e = absurd (omega arith)
number-combined (x ∷ a) (y ∷ b) e =
    number-first (bit_xor x y) (combined a b)
    ∙ ap₂ (λ (n p : ℕ). p * 2 ^ (8 * n) + number (bits_of (combined a b))) (length-combined a b same) (xor_mod x y 8)
    ∙ ap (λ (q : ℕ). bit_xor (x % 256) (y % 256) * c + q) (number-combined a b same)
    ∙ sym (xor_block (8 * length a) (x % 256) (y % 256) u v (number-low a (length a) refl) (number-low b (length a) (sym same)))
    ∙ sym (ap₂ bit_xor (number-first x a) second)
  where
    same : length a ≡ length b
    same = suc_inj e

    c : ℕ
    c = 2 ^ (8 * length a)

    u : ℕ
    u = number (bits_of a)

    v : ℕ
    v = number (bits_of b)

    second : number (bits_of (y ∷ b)) ≡ y % 256 * c + v
    second = number-first y b ∙ ap (λ (n : ℕ). y % 256 * 2 ^ (8 * n) + v) (sym same)
