-- `put_line` meets its contract: where an entry is named, and where none is (Words).
use Rattle.texts.specs.Pieces.{piece}
use Rattle.sheet_report.proofs.Words.{line-put, line-not}
use Rattle.sheet_report.proofs.steps.put_line.Goals as goal

pub returns-then-names_entry : goal.returns-then-names_entry
unfolding piece
returns-then-names_entry c = let args = c.args in
    line-put args.answer args.line args.text c.names_entry.ensures c.if-names_entry.true c.put_piece.ensures

pub returns-else-names_entry : goal.returns-else-names_entry
returns-else-names_entry c = let args = c.args in
    line-not args.answer args.line args.text c.names_entry.ensures c.if-names_entry.false
