-- `run_of` meets its contract: the run begins where `locate` finds its first byte (Eighth).
use native.Mathlib.Omega.{arith}
use borrow.Author.Rules.{rules}
use Rattle.ldc_words.proofs.Eighth.{run_of, located}
use Rattle.ldc_words.proofs.steps.run_of.Goals as goal

pub overflow_add-next : goal.overflow_add-next
overflow_add-next c = omega (arith, located _ _ _ c.locate-place.ensures)

pub overflow_add-result : goal.overflow_add-result
overflow_add-result c = omega (arith, located _ _ _ c.locate-place.ensures)

pub overflow_add-result-2 : goal.overflow_add-result-2
overflow_add-result-2 c = omega (arith, located _ _ _ c.locate-place.ensures)

pub returns : goal.returns
returns c = let args = c.args in run_of args.e args.n _ (search rules) c.locate-place.ensures
