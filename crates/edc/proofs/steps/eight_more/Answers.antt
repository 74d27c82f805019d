-- `eight_more` meets its contract: quotient and remainder (Register).
use mathlib.Core.Path.{◌∙◌}
use Rattle.bit_sums.proofs.Folded.{folded}
use Rattle.edc.proofs.Quotient.{low_of, carried, carried_twice}
use Rattle.edc.proofs.Register.{eight-taken}
use Rattle.edc.proofs.steps.eight_more.Goals as goal

pub returns : goal.returns
unfolding folded low_of carried carried_twice
returns c bytes held =
    c.below.ensures
    ∙ eight-taken bytes c.args.register c.args.eight c.from.result c.sums.result c.low.result c.sum_below.result
    c.low-2.result c.low-3.result held c.ranges.eight.fits c.from.ensures c.sums.ensures c.low.ensures c.sum_below.ensures
    c.low-2.ensures c.low-3.ensures
