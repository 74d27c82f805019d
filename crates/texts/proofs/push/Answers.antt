-- `push` meets its contract: by whether there is room (Texts).
use Rattle.texts.proofs.Texts.{push-none, push-one}
use Rattle.texts.proofs.push.Goals as goal

pub returns-then-size-ge256 : goal.returns-then-size-ge256
returns-then-size-ge256 c = push-none _ _ c.if-size-ge256.true

pub returns : goal.returns
returns c = push-one _ _ c.if-size-ge256.false
