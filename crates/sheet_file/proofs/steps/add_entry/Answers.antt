-- `add_entry` meets its contract: beyond the entries that are held, and among them (Entries).
use Rattle.sheet_file.proofs.Entries.{psn-kept, entry_past, entry_more}
use Rattle.sheet_file.proofs.steps.add_entry.Goals as goal

pub returns-then-count-ge-SHEET : goal.returns-then-count-ge-SHEET
returns-then-count-ge-SHEET c = λ list entry holds is. entry_past list entry holds is c.wrong_after-wrong.ensures c.if-count-ge-SHEET.true

pub returns : goal.returns
returns c = λ list entry holds is. entry_more list entry holds is c.wrong_after-wrong.ensures _ (psn-kept c.args.psn c.unwrap_or.ensures) c.if-count-ge-SHEET.false
