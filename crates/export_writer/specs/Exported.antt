-- What a caller in another language sees of the writer's outcome: document 01's number and place instead of an enum.
use Rattle.std.specs.Prelude.{List, ℕ}
use Rattle.answer.specs.Answer as Answer
use Rattle.writer.specs.Outcome as writer

-- the answer, and the two slices that it is lent to write
pub record Writing : Type 0 where
  pub number : ℕ
  pub place : ℕ
  pub image : List ℕ
  pub work : List ℕ

abbrev pub writing : writer.Outcome → Writing
writing o = record { number = Answer.number_of o.answer; place = Answer.place_of o.answer; image = o.image; work = o.work }
