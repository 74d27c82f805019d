-- `sum_below` meets its contract: the sum is odd where the number of ones is (Quotient).
use borrow.Author.Rules.{rules}
use Rattle.bit_sums.proofs.Folded.{folded}
use Rattle.edc.proofs.Quotient.{sums-odd}
use Rattle.edc.proofs.steps.sum_below.Goals as goal

pub returns : goal.returns
unfolding folded
returns c = search (rules, sums-odd)
