-- What a caller in another language sees of the reader's outcome: document 01's number and place instead of an enum.
use Rattle.std.specs.Prelude.{Bool, ℕ}
use Rattle.answer.specs.Answer as Answer
use Rattle.reader.specs.Outcome as reader

-- the answer, the PSN, the first #, and the four slices that it is lent to write
pub record Reading : Type 0 where
  pub number : ℕ
  pub place : ℕ
  pub psn : ℕ
  pub first : Bool
  pub lent : reader.Lent

abbrev pub reading : reader.Outcome → Reading
reading o = record { number = Answer.number_of o.answer; place = Answer.place_of o.answer; psn = o.psn; first = o.first; lent = o.lent }
