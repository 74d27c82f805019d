-- `ReadAnswered::of` meets its contract: number and place, beside the PSN.
use mathlib.Core.Path.{ap₂}
use Prim.Native.Nat.{ℕ}
use Rattle.answer_numbers.proofs.ReadAnswered.of.Goals as goal

pub returns : goal.returns
returns c = let args = c.args in
    ap₂ (λ (n p : ℕ). record { number = n; psn = args.psn.0; place = p; first = args.first }) c.number.ensures c.place.ensures
