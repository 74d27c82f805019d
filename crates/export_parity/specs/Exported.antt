-- What a caller in another language sees of a column's parity: number and place instead of an enum.
use Rattle.std.specs.Prelude.{List, ℕ}
use Rattle.answer.specs.Answer as Answer
use Rattle.column_parity.specs.Outcome.{Outcome}

-- the answer, and the slice that it is lent to write
pub record Completing : Type 0 where
  pub number : ℕ
  pub place : ℕ
  pub parity : List ℕ

abbrev pub completing : Outcome → Completing
completing o = record { number = Answer.number_of o.answer; place = Answer.place_of o.answer; parity = o.parity }
