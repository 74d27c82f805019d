-- Document 02, W-207: the answer, and the parity slice as it is at exit.
use Rattle.std.specs.Prelude.{cond, List, ℕ, eqb, ltb, length}
use Rattle.answer.specs.declared.Answer.{Answer}
use Rattle.answer.specs.declared.Answer.TheVariants.{Done, WrongColumn}
use Rattle.answer.specs.Answer.{is_done, and_then}
use Rattle.lengths.specs.Lengths.{sized}
use Rattle.column.specs.Column.{parity}

-- 22: a data length of 0 or above 223
abbrev pub data_answer : ℕ → Answer
data_answer n = cond (eqb n 0) WrongColumn (cond (ltb 223 n) WrongColumn Done)

-- or a parity slice that is not 32 long; from the two lengths
abbrev pub answer : ℕ → ℕ → Answer
answer n size = and_then (data_answer n) (sized size 32 WrongColumn)

pub record Outcome : Type 0 where
  pub answer : Answer
  pub parity : List ℕ

-- From the data, the column's message, and the parity slice at entry. Done: the 32 parity bytes of the data; refused: the slice as it was.
unfoldable pub outcome : List ℕ → List ℕ → Outcome
outcome message before =
    let a = answer (length message) (length before) in
    record { answer = a; parity = cond (is_done a) (parity 32 message) before }
