-- `judge` meets its contract: the lengths, then the other tests (answer, Tests).
use Rattle.answer.proofs.Tests.{goes_on, stops}
use Rattle.lengths.proofs.RightLengths.{lengths-passed}
use lib.ListN.{length}
use Rattle.writer.proofs.judge.Goals as goal

pub judge-requires : goal.judge-requires
judge-requires c = let args = c.args in
    (lengths-passed args.user args.side (length args.dc.now) args.image args.work c.judge-given.ensures c.is_done.ensures c.if-is_done.true).0.dc

pub returns-then-is_done : goal.returns-then-is_done
returns-then-is_done c = goes_on _ _ _ _ c.judge-given.ensures c.is_done.ensures _ c.if-is_done.true c.judge.ensures

pub returns : goal.returns
returns c = stops _ _ _ _ c.judge-given.ensures c.is_done.ensures c.if-is_done.false
