-- `ahead` meets its contract: another length, and a frame (Words).
use native.Mathlib.Omega.{arith}
use Rattle.ahead_report.proofs.Words.{other_length, frame-said}
use Rattle.ahead_report.proofs.ahead.Goals as goal

pub returns-then-input-ne159 : goal.returns-then-input-ne159
returns-then-input-ne159 c = λ b.
    other_length b c.args.input.now (λ e. omega (arith, c.if-input-ne159.true, e)) c.answer_text.ensures

pub returns : goal.returns
returns c = λ b.
    frame-said b c.args.input.now (omega (arith, c.if-input-ne159.false)) c.word_at-dc.ensures (c.most_needed.ensures b) c.outcome_text.ensures
