-- `block_of` meets what `bis::block` asks: the table was filled, the PSN judged, and an array of 592 has that length.
use borrow.Author.Rules.{rules}
use Rattle.answer.proofs.Tests.{done-told}
use Rattle.bis_test.proofs.block_of.Goals as goal

pub block-requires : goal.block-requires
block-requires c = (search rules, (search rules, search (done-told)))
