-- `most_needed` meets its contract: the tests, and the most bits where they are passed (Outcome). Assumes nothing.
use mathlib.Core.Path.{sym, ap, ◌∙◌}
use lib.ListN.{length}
use Rattle.answer.specs.Answer.{is_done}
use Rattle.look_ahead.proofs.Outcome.{frame-done, outcome-done, outcome-refused}
use Rattle.look_ahead.proofs.most_needed.Goals as goal

pub most_bits-requires : goal.most_bits-requires
most_bits-requires c = (frame-done (length c.args.row.now) c.args.dc (ap is_done (sym c.judge-answer.ensures) ∙ sym c.is_done.ensures ∙ c.if-is_done.true)).row

pub returns-then-is_done : goal.returns-then-is_done
returns-then-is_done c b = outcome-done b c.args.row.now c.args.dc c.judge-answer.ensures (sym c.is_done.ensures ∙ c.if-is_done.true) (c.most_bits.ensures b)

pub returns : goal.returns
returns c b = outcome-refused b c.args.row.now c.args.dc c.judge-answer.ensures (sym c.is_done.ensures ∙ c.if-is_done.false)
