-- What the must-fail edit of specs/Images states is false. Assumes nothing.
use mathlib.Core.Path.{◌≡◌, refl}
use Prim.Native.Nat.{ℕ, ◌+◌, ◌*◌, ◌<◌}
use native.Mathlib.Omega.{arith}
use Rattle.answer.specs.declared.Answer.TheVariants.{Done}
use Rattle.address.specs.Judged.{judged}
use Rattle.laws.specs.First.{first}
use Rattle.address_sheet.specs.Sheet.{sheet_answer}
use Rattle.image.specs.Image.{Input, IsAccepted, image_bits}
use Rattle.image.proofs.Statements.{zeros, zeros-accepted}

-- the first two clusters of zone 0
abbrev two : ℕ → ℕ
two i = 0x0010_0000 + 32 * i

pub two-accepted : sheet_answer 2 two ≡ Done
unfolding sheet_answer judged first
two-accepted = refl

-- every cluster at the PSN of entry 0
pub one-psn-fails : ((i j : ℕ) → i < 2 → j < 2 → (i ≡ j → ⊥) → (a b : Input) → IsAccepted a → IsAccepted b → a.psn ≡ two 0 → b.psn ≡ two 0 → image_bits a ≡ image_bits b → ⊥) → ⊥
one-psn-fails all = all 0 1 (omega arith) (omega arith) (λ e. omega (arith, e)) zeros zeros zeros-accepted zeros-accepted refl refl refl
