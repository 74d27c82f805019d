-- `sized` meets its contract: another length, and the right one (RightLengths).
use mathlib.Core.Path.{sym}
use Rattle.lengths.proofs.RightLengths.{sized-right, sized-wrong}
use Rattle.lengths.proofs.sized.Goals as goal

pub returns-then-size-right : goal.returns-then-size-right
returns-then-size-right c = sym (sized-wrong _ c.if-size-right.true)

pub returns : goal.returns
returns c = sym (sized-right _ c.if-size-right.false)
