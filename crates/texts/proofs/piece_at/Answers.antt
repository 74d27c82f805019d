-- `piece_at` meets its contract: bar by bar (Pieces).
use Rattle.texts.proofs.Pieces.{bars-fewer, bars-none, bars-end}
use Rattle.texts.proofs.piece_at.Goals as goal

pub returns-then-bars-eq0 : goal.returns-then-bars-eq0
returns-then-bars-eq0 c = search (bars-none)

pub loop-i-preserved : goal.loop-i-preserved
loop-i-preserved c = search (bars-fewer)

pub returns : goal.returns
returns c = search (bars-end)
