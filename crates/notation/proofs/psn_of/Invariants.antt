-- `psn_of` meets its contract: digit by digit, the value of the digits passed (Digits).
use mathlib.Core.Path.{◌≡◌}
use lib.ListN.{length}
use Rattle.laws.proofs.First.{Passed}
use Rattle.notation.specs.Psn.{value_to, no_digit}
use Rattle.notation.proofs.psn_of.Given as goal

abbrev pub invariant-loop-byte : goal.invariant-loop-byte
invariant-loop-byte l = (length l.text ≡ 8) × Passed (no_digit l.text) l.byte-index × (l.value ≡ value_to l.text l.byte-index)
