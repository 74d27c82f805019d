-- What a caller in another language sees of how far ahead the modulator reads: number and place instead of an enum.
use Rattle.answer.specs.Answer.{number_of, place_of}
use Rattle.look_ahead.specs.Outcome.{Outcome}
use Rattle.export_ahead.specs.declared.AheadNumbers.{AheadNumbers}

abbrev pub ahead_seen : Outcome → AheadNumbers
ahead_seen o = record { number = number_of o.answer; place = place_of o.answer; bits = o.bits }
