-- What a caller in another language sees of a conversion: document 01's number instead of an enum, bare numbers instead of PSN, AUN and PAA.
use Rattle.address.specs.declared.PsnAnswer.{PsnAnswer}
use Rattle.address.specs.declared.AunAnswer.{AunAnswer}
use Rattle.address.specs.declared.PaaAnswer.{PaaAnswer}
use Rattle.answer_numbers.specs.declared.Converted.{Converted}
use Rattle.answer_numbers.specs.Numbers.{converted}

abbrev pub psn_seen : PsnAnswer → Converted
psn_seen a = converted a.answer a.psn.0

abbrev pub aun_seen : AunAnswer → Converted
aun_seen a = converted a.answer a.aun.0

abbrev pub paa_seen : PaaAnswer → Converted
paa_seen a = converted a.answer a.paa.0
