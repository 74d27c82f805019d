-- `Converted::of` meets its contract: the number, beside the value.
use mathlib.Core.Path.{ap}
use Prim.Native.Nat.{ℕ}
use Rattle.answer_numbers.proofs.Converted.of.Goals as goal

pub returns : goal.returns
returns c = ap (λ (n : ℕ). record { number = n; value = c.args.found }) c.number.ensures
