-- `judge` meets its contract: the five tests, one after the other (RightLengths).
use Rattle.lengths.proofs.RightLengths.{lengths-are}
use Rattle.lengths.proofs.judge.Goals as goal

pub returns : goal.returns
returns c = lengths-are _ _ _ _ _ c.sized-one.ensures c.sized-two.ensures c.sized-three.ensures c.sized-four.ensures c.sized-five.ensures
    c.and_then.ensures c.and_then-2.ensures c.and_then-3.ensures c.and_then-4.ensures
