-- A verdict as a number, and its parts, each 0 where the verdict has none.
use Rattle.std.specs.Prelude.{ℕ}
use Rattle.answer.specs.Answer.{number_of, place_of}
use Rattle.verdict.specs.declared.Verdict.{Verdict}
use Rattle.verdict.specs.declared.Verdict.TheVariants.{Pass, Refused, OtherPsn, OtherUser, OtherSide}

abbrev pub kind_of : Verdict → ℕ
kind_of Pass = 0
kind_of (Refused a) = 1
kind_of (OtherPsn psn) = 2
kind_of (OtherUser n) = 3
kind_of (OtherSide n) = 4

abbrev pub refusal_in : Verdict → ℕ
refusal_in Pass = 0
refusal_in (Refused a) = number_of a
refusal_in (OtherPsn psn) = 0
refusal_in (OtherUser n) = 0
refusal_in (OtherSide n) = 0

abbrev pub own_psn : Verdict → ℕ
own_psn Pass = 0
own_psn (Refused a) = 0
own_psn (OtherPsn psn) = psn.0
own_psn (OtherUser n) = 0
own_psn (OtherSide n) = 0

abbrev pub place_in : Verdict → ℕ
place_in Pass = 0
place_in (Refused a) = place_of a
place_in (OtherPsn psn) = 0
place_in (OtherUser n) = n
place_in (OtherSide n) = n
