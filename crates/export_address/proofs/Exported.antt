-- What is returned are the parts of what a conversion gave: r is returned, a what the conversion gave, b what it is defined to give. Assumes nothing.
use mathlib.Core.Path.{◌≡◌, ap, ◌∙◌}
use Rattle.address.specs.declared.PsnAnswer.{PsnAnswer}
use Rattle.address.specs.declared.AunAnswer.{AunAnswer}
use Rattle.address.specs.declared.PaaAnswer.{PaaAnswer}
use Rattle.answer_numbers.specs.declared.Converted.{Converted}
use Rattle.answer_numbers.specs.Numbers.{converted}
use Rattle.export_address.specs.Exported.{psn_seen, aun_seen, paa_seen}

pub same-psn : {r : Converted} {a b : PsnAnswer} → r ≡ converted a.answer a.psn.0 → a ≡ b → r ≡ psn_seen b
same-psn hr h = hr ∙ ap psn_seen h

pub same-aun : {r : Converted} {a b : AunAnswer} → r ≡ converted a.answer a.aun.0 → a ≡ b → r ≡ aun_seen b
same-aun hr h = hr ∙ ap aun_seen h

pub same-paa : {r : Converted} {a b : PaaAnswer} → r ≡ converted a.answer a.paa.0 → a ≡ b → r ≡ paa_seen b
same-paa hr h = hr ∙ ap paa_seen h
