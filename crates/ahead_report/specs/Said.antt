-- What is printed for a frame (document 02, W-212): the most bits that any word needs, or the answer that refuses it.
use Rattle.std.specs.Prelude.{Bool, cond, List, ◌++◌, ℕ, eqb, length, drop}
use Rattle.answer.specs.declared.Answer.TheVariants.{WrongRow}
use Rattle.answer.specs.Answer.{is_done}
use Rattle.big_endian.specs.Words.{word_at}
use Rattle.texts.specs.Text.{the}
use Rattle.texts.specs.Numbers.{decimal}
use Rattle.report.specs.Words.{answer_text}
use Rattle.look_ahead.specs.Outcome.{Outcome, outcome}

abbrev pub outcome_text : Outcome → List ℕ
outcome_text o = cond (is_done o.answer) (decimal o.bits ++ the "\n") (answer_text o.answer)

-- the input is the dc word in four bytes, the highest first, and the frame's 155 bytes; b is the modulation bit before the frame
unfoldable pub ahead_text : Bool → List ℕ → List ℕ
ahead_text b input = cond (eqb (length input) 159) (outcome_text (outcome b (drop 4 input) (word_at input 0))) (answer_text WrongRow)
