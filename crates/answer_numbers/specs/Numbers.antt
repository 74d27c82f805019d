-- What a caller in another language sees of an answer: the documents' number and place instead of an enum.
use Rattle.std.specs.Prelude.{Bool, ℕ}
use Rattle.answer.specs.declared.Answer.{Answer}
use Rattle.answer.specs.Answer.{number_of, place_of}
use Rattle.verdict.specs.declared.Verdict.{Verdict}
use Rattle.verdict.specs.Verdict.{kind_of, refusal_in, own_psn, place_in}
use Rattle.answer_numbers.specs.declared.Answered.{Answered}
use Rattle.answer_numbers.specs.declared.ReadAnswered.{ReadAnswered}
use Rattle.answer_numbers.specs.declared.Marking.{Marking}
use Rattle.answer_numbers.specs.declared.Converted.{Converted}

abbrev pub answered : Answer → Answered
answered a = record { number = number_of a; place = place_of a }

abbrev pub read_answered : Answer → ℕ → Bool → ReadAnswered
read_answered a psn first = record { number = number_of a; psn = psn; place = place_of a; first = first }

abbrev pub marking : Verdict → Marking
marking v = record { verdict = kind_of v; number = refusal_in v; psn = own_psn v; place = place_in v }

abbrev pub converted : Answer → ℕ → Converted
converted a value = record { number = number_of a; value = value }
