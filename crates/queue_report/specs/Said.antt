-- What is printed for a record of the queue (document 02, W-214): a line with answer, place, bench and PSN, and behind them a refusal's words.
use Rattle.std.specs.Prelude.{Bool, false, cond, List, [], ◌∷◌, ◌++◌, ℕ, eqb, length}
use Rattle.answer.specs.declared.Answer.{Answer}
use Rattle.answer.specs.Answer.{number_of, place_of, is_done}
use Rattle.texts.specs.Text.{the}
use Rattle.texts.specs.Numbers.{decimal, hexadecimal}
use Rattle.report.specs.Words.{meaning}
use Rattle.order_queue.specs.declared.Handled.{Handled}

-- a refusal's words end with a line feed
abbrev pub handled_words : Answer → List ℕ
handled_words a = cond (is_done a) (the "\n") (the " " ++ meaning a)

unfoldable pub handled_text : Handled → List ℕ
handled_text h =
    decimal (number_of h.answer) ++ the " " ++ decimal (place_of h.answer) ++ the " " ++ decimal h.bench ++ the " " ++ hexadecimal h.psn.0 ++ handled_words h.answer

-- whether a text is one line: a line feed at its end, and no other
unfoldable pub is_line : List ℕ → Bool
is_line [] = false
is_line (b ∷ text) = cond (eqb b 10) (eqb (length text) 0) (is_line text)
