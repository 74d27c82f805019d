-- `record_on` meets its contract: a longer line, an odd one, and pair by pair (Records).
use mathlib.Core.Path.{refl}
use native.Mathlib.Omega.{arith}
use Rattle.queue_lines.proofs.Records.{shown-long, held-odd, pairs-none, pairs-more, pairs-other, pairs-all}
use borrow.Author.Rules.{rules}
use Rattle.queue_lines.proofs.steps.record_on.Goals as goal
use Rattle.queue_lines.proofs.steps.record_on.Goals.{then-size-gt12-via-then-size-gt12, then-size-gt12-via-else-size-gt12+then-size-ne0}

pub returns-then-size-gt12 : goal.returns-then-size-gt12
returns-then-size-gt12 c =
    elim c.then-size-gt12.branch [
      | then-size-gt12-via-then-size-gt12 w ↦ shown-long _ _ w.if-size-gt12.true
      | then-size-gt12-via-else-size-gt12+then-size-ne0 w ↦ held-odd _ _ (search rules) (omega (arith, w.if-size-gt12.false)) (λ e. omega (arith, w.if-size-ne0.true, e))
    ]

pub loop-k-init : goal.loop-k-init
loop-k-init c = pairs-none (search rules) (omega (arith, c.if-size-gt12.false)) (omega (arith, c.if-size-ne0.false)) refl

pub returns-in_err-bytes : goal.returns-in_err-bytes
returns-in_err-bytes c = rw c.from_residual.ensures (pairs-other c.loop-k.invariant (search rules) refl (omega (arith, c.in_err-bytes.ensures)))

pub loop-k-preserved : goal.loop-k-preserved
loop-k-preserved c = pairs-more c.loop-k.invariant (search rules) c.in_ok-bytes.ensures.1 (omega (arith, c.in_ok-bytes.ensures))

pub returns : goal.returns
returns c = pairs-all c.loop-k.invariant (search rules)
