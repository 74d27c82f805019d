-- `Answered::of` meets its contract: number and place.
use mathlib.Core.Path.{ap₂}
use Prim.Native.Nat.{ℕ}
use Rattle.answer_numbers.proofs.Answered.of.Goals as goal

pub returns : goal.returns
returns c = ap₂ (λ (n p : ℕ). record { number = n; place = p }) c.number.ensures c.place.ensures
