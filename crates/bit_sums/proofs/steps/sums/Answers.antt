-- `sums` meets its contract: the copies of w cancel out (Folded).
use Rattle.bit_sums.proofs.Folded.{folded, unsummed}
use Rattle.bit_sums.proofs.steps.sums.Goals as goal

pub returns : goal.returns
unfolding folded
returns c = unsummed c.args.w c.ranges.w.fits
