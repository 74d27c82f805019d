-- `no_entries` meets its contract: computed.
use mathlib.Core.Path.{refl}
use native.Mathlib.Nat.{not-suc-le-zero}
use Rattle.sheet_file.specs.File.{wrong_line}
use Rattle.sheet_file.proofs.steps.no_entries.Goals as goal

pub returns : goal.returns
unfolding wrong_line
returns c = record { psns-room = refl; lines-room = refl; count = refl; psns = λ i h none. absurd (not-suc-le-zero none); lines = λ i h none. absurd (not-suc-le-zero none); wrong = refl }
