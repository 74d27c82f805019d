-- `joined` meets its contract: the two halves stand behind one another (Writing).
use mathlib.Core.Path.{refl}
use Rattle.std.proofs.Common.{rules}
use Rattle.bis_writer.proofs.Writing.{joined-is}
use Rattle.bis_writer.proofs.steps.joined.Goals as goal

pub returns : goal.returns
returns c = joined-is _ c.copy_from_slice.ensures.after c.copy_from_slice-2.ensures.after (search rules) refl
