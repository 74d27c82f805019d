-- `psn_of` meets its contract: digit by digit, the value of the digits passed (Digits).
use mathlib.Core.Path.{refl, ◌∙◌}
use native.Mathlib.Omega.{arith}
use Rattle.laws.proofs.First.{passed_none, passed-more}
use Rattle.notation.specs.Psn.{value_to}
use Rattle.notation.proofs.Digits.{no-digit, a-digit, value-more, value-small, another-length, another-byte, eight-digits}
use Rattle.notation.proofs.psn_of.Goals as goal

pub returns-then-text-ne8 : goal.returns-then-text-ne8
returns-then-text-ne8 c = search (another-length)

pub loop-byte-init : goal.loop-byte-init
unfolding value_to
loop-byte-init c = (omega arith, passed_none, refl)

pub returns-in_err-value : goal.returns-in_err-value
returns-in_err-value c = let inv = c.loop-byte.invariant in
    c.from_residual.ensures ∙ another-byte _ _ inv.0 (omega arith) inv.1 (no-digit _ _ c.in_err-value.ensures)

pub overflow_mul-value : goal.overflow_mul-value
overflow_mul-value c = let inv = c.loop-byte.invariant in let small = value-small _ _ _ inv.1 inv.2 (omega arith) in omega arith

pub overflow_add-value : goal.overflow_add-value
overflow_add-value c = let inv = c.loop-byte.invariant in let small = value-small _ _ _ inv.1 inv.2 (omega arith) in omega (arith, c.in_ok-value.ensures)

pub loop-byte-preserved : goal.loop-byte-preserved
loop-byte-preserved c = let inv = c.loop-byte.invariant in let d = c.in_ok-value.ensures in
    (inv.0, passed-more inv.1 (a-digit _ _ _ d.1 (omega arith)), value-more _ _ _ d.1 _ inv.2)

pub returns : goal.returns
returns c = let inv = c.loop-byte.invariant in eight-digits _ _ _ inv.0 (omega arith) inv.1 inv.2
