-- `judge_dc` meets its contract: test 8. Assumes nothing.
use mathlib.Core.Path.{refl}
use borrow.Author.Tests.{lt-ltb, le-ltb}
use Rattle.look_ahead.proofs.judge_dc.Goals as goal

pub returns-then-dc-gt268435455 : goal.returns-then-dc-gt268435455
returns-then-dc-gt268435455 c = rw (lt-ltb 0x0FFF_FFFF c.args.dc c.if-dc-gt268435455.true) refl

pub returns : goal.returns
returns c = rw (le-ltb 0x0FFF_FFFF c.args.dc c.if-dc-gt268435455.false) refl
