-- `put_words` meets its contract: 0, and a refusal (Words).
use Rattle.queue_report.proofs.Words.{words-done, words-refused}
use Rattle.queue_report.proofs.put_words.Goals as goal

pub returns-then-is_done : goal.returns-then-is_done
returns-then-is_done c = let args = c.args in
    words-done args.answer args.text c.is_done.ensures c.if-is_done.true c.put.ensures

pub returns : goal.returns
returns c = let args = c.args in
    words-refused args.answer args.text c.is_done.ensures c.if-is_done.false c.put-2.ensures c.put_meaning.ensures
