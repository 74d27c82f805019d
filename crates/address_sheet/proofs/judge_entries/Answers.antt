-- `judge_entries` meets its contract, test by test (Tests).
use Rattle.address_sheet.specs.Sheet.{entry_psn}
use Rattle.address_sheet.proofs.Tests.{fails-6, fails-7, fails-24, fails-none}
use Rattle.address_sheet.proofs.judge_entries.Goals as goal

pub returns-then-multiple-count : goal.returns-then-multiple-count
returns-then-multiple-count c = fails-6 _ (entry_psn c.args.psns) c.first_alone_by-multiple.ensures c.if-multiple-count.true

pub returns-then-zone-count : goal.returns-then-zone-count
returns-then-zone-count c = fails-7 _ (entry_psn c.args.psns) c.first_alone_by-multiple.ensures c.if-multiple-count.false c.first_alone_by-zone.ensures c.if-zone-count.true

pub returns-then-repeated-count : goal.returns-then-repeated-count
returns-then-repeated-count c = fails-24 _ (entry_psn c.args.psns) c.first_alone_by-multiple.ensures c.if-multiple-count.false c.first_alone_by-zone.ensures c.if-zone-count.false
    c.first_repeated-repeated.ensures c.if-repeated-count.true

pub returns : goal.returns
returns c = fails-none _ (entry_psn c.args.psns) c.first_alone_by-multiple.ensures c.if-multiple-count.false c.first_alone_by-zone.ensures c.if-zone-count.false
    c.first_repeated-repeated.ensures c.if-repeated-count.false
