-- `byte_more` meets its contract: quotient and remainder (Register).
use borrow.Author.Rules.{rules}
use Rattle.bit_sums.proofs.Folded.{folded}
use Rattle.edc.proofs.Quotient.{low_of}
use Rattle.edc.proofs.Register.{byte-taken}
use Rattle.edc.proofs.steps.byte_more.Goals as goal

pub returns : goal.returns
unfolding folded low_of
returns c = search (rules, byte-taken)
