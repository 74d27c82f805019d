-- `Marking::of` meets its contract: the parts of the verdict (Parts).
use Rattle.answer_numbers.proofs.Parts.{parts}
use Rattle.answer_numbers.proofs.Marking.of.Goals as goal

pub returns : goal.returns
returns c = search (parts)
