-- `judge` meets its contract: the two tests, one after the other. Assumes nothing.
use mathlib.Core.Path.{ap₂, ◌∙◌}
use Rattle.answer.specs.Answer.{and_then}
use Rattle.look_ahead.proofs.judge.Goals as goal

pub returns : goal.returns
returns c = c.and_then.ensures ∙ ap₂ and_then c.sized-row.ensures c.judge_dc.ensures
