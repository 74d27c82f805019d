-- `no_words` meets its contract: zeros are small (Unweaving). Assumes nothing.
use mathlib.Core.Path.{refl}
use Rattle.frame_bits.proofs.Unweaving.{small-words}
use Rattle.frame_bits.proofs.steps.no_words.Goals as goal

pub returns : goal.returns
returns c = small-words refl tt
