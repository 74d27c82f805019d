-- `and_then` meets its contract: the first test is passed, or speaks (Tests).
use mathlib.Core.Path.{refl}
use Rattle.answer.proofs.Tests.{goes_on, stops}
use Rattle.answer.proofs.Answer.and_then.Goals as goal

pub returns-then-is_done : goal.returns-then-is_done
returns-then-is_done c = let self = c.args.self in goes_on self _ self _ refl c.is_done.ensures _ c.if-is_done.true refl

pub returns : goal.returns
returns c = let self = c.args.self in stops self _ self _ refl c.is_done.ensures c.if-is_done.false
