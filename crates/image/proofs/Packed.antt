-- Demand 3, first half, of the image's bytes. Assumes nothing.
use mathlib.Core.Path.{◌≡◌, sym, ap, ◌∙◌}
use mathlib.Core.Logic.{◌↔◌}
use mathlib.Core.List.{List, [], ◌∷◌, ◌++◌}
use Prim.Native.Nat.{ℕ}
use lib.ListN.{take}
use lib.Seq.{take-append_seam}
use Rattle.bits.specs.Bits.{bits_of, packed}
use Rattle.image.specs.Image.{Input, IsAccepted, image_bits, image}
use Rattle.image.proofs.Demand3.{Same, images-equal, image-size, image-bits}

-- two accepted inputs have equal images exactly when their five parts are equal
pub equal-images : (a b : Input) → IsAccepted a → IsAccepted b → (image a ≡ image b) ↔ Same a b
equal-images a b ha hb = (λ e. (images-equal a b ha hb).0 (front e), λ s. unfold image in ap (λ (l : List ℕ). packed (l ++ (0 ∷ 0 ∷ []))) ((images-equal a b ha hb).1 s))
  where
    taken : (input : Input) → take 958302 (bits_of (image input)) ≡ image_bits input
    taken input =
        ap (take 958302) (image-bits input)
        ∙ ap (λ (n : ℕ). take n (image_bits input ++ (0 ∷ 0 ∷ []))) (sym (image-size input))
        ∙ take-append_seam (image_bits input) (0 ∷ 0 ∷ [])

    front : image a ≡ image b → image_bits a ≡ image_bits b
    front e = sym (taken a) ∙ ap (λ (l : List ℕ). take 958302 (bits_of l)) e ∙ taken b
