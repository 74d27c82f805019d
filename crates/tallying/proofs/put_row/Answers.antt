-- `put_row` meets its contract: the gap length, then its count (Table).
use Rattle.tallying.proofs.Table.{row_is}
use Rattle.texts.specs.Pieces.{piece}
use Rattle.tallying.proofs.put_row.Goals as goal

pub returns : goal.returns
unfolding piece
returns c = search (row_is)
