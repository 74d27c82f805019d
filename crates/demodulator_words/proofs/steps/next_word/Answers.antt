-- `next_word` meets its contract (Held). Assumes nothing.
use Prim.Native.Nat.{◌+◌, ◌*◌}
use Rattle.bits.specs.Bits.{bits_of}
use Rattle.modulation.proofs.Groups.{length-groups_at}
use Rattle.demodulator_words.proofs.Held.{next_word}
use Rattle.demodulator_words.proofs.steps.next_word.Goals as goal

pub returns : goal.returns
returns c = let args = c.args in
    next_word c.requires.1.1.1 (length-groups_at (bits_of args.bytes.now) (args.at + 39 + 69 * args.i) 23) c.segment-y.ensures
