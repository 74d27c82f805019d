-- `four_bytes` meets its contract: a byte at a time (frame_bits, Weaving). Assumes nothing.
use Rattle.frame_bits.proofs.Weaving.{four-bytes}
use Rattle.weaving.proofs.steps.four_bytes.Goals as goal

pub returns : goal.returns
returns c = four-bytes c.args.row.now (λ k. (c.shared_slice_known-1.given k).fits) c.args.i c.requires c.from.ensures c.from-2.ensures
    c.from-3.ensures c.from-4.ensures
