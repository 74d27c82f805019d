-- `no_line` meets its contract: computed.
use mathlib.Core.Path.{refl}
use native.Mathlib.Nat.{not-suc-le-zero}
use Rattle.sheet_file.specs.File.{trimmed}
use Rattle.sheet_file.proofs.steps.no_line.Goals as goal

pub returns : goal.returns
unfolding trimmed
returns c = record { room = refl; held = refl; bytes = λ k h none. absurd (not-suc-le-zero none); size = refl }
