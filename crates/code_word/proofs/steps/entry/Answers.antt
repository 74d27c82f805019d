-- `entry` meets its contract: that is what the table holds. Assumes nothing.
use Rattle.code_word.proofs.steps.entry.Goals as goal

pub returns : goal.returns
returns c = c.requires.0.at c.args.k c.args.b c.args.j c.requires.1.0 c.requires.1.1.0 c.requires.1.1.1
