-- `blank` meets its contract: computed.
use mathlib.Core.Path.{refl}
use Rattle.laws.specs.Zeros.{zeros}
use Rattle.texts.specs.Text.{blank_text}
use Rattle.texts.proofs.blank.Goals as goal

pub returns : goal.returns
unfolding blank_text zeros
returns c = refl
