-- `parity_4` meets its contract: the remainder by the generator with 4 roots. Assumes nothing.
use borrow.Author.Rules.{rules}
use Rattle.column.proofs.Register.{divided-parity}
use Rattle.parity.proofs.parity_4.Goals as goal

pub returns : goal.returns
returns c = divided-parity _ c.generator_4-generator.ensures.1 (search rules) c.divide.ensures
