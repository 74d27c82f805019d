-- `shifted_by_eight` meets its contract: eight shifts at once (EightShifts).
use Rattle.scrambling.proofs.EightShifts.{fed_first, eight_shifts, eight-shifts}
use Rattle.scrambling.proofs.shifted_by_eight.Goals as goal

pub returns : goal.returns
unfolding fed_first eight_shifts
returns c = eight-shifts c.args.s c.ranges.s.fits
