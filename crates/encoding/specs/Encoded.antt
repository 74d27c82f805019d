-- What encode says, whether the image that it made is kept, and what it leaves in the slice that it is lent.
use Rattle.std.specs.Prelude.{Bool, cond, List, [], ℕ, eqb, length}
use Rattle.laws.specs.Zeros.{zeros}
use Rattle.answer.specs.Answer.{is_done}
use Rattle.notation.specs.Words.{words_of}
use Rattle.writer.specs.Outcome as writer
use Rattle.texts.specs.declared.Text.{Text}
use Rattle.texts.specs.Text.{text_of}
use Rattle.report.specs.Words.{answer_text}
use Rattle.sizes.specs.Sizes.{work_size, dc_size}

pub record Encoded : Type 0 where
  pub keep : Bool
  pub text : Text
  pub image : List ℕ

-- the answer's text; kept where the answer is 0
abbrev pub encoded_by : writer.Outcome → Encoded
encoded_by o = record { keep = is_done o.answer; text = text_of (answer_text o.answer); image = o.image }

abbrev pub encoded_words : ℕ → List ℕ → List ℕ → List ℕ → Bool → List ℕ → Encoded
encoded_words psn user side words first image = encoded_by (writer.outcome (record { user = user; psn = psn; side = side; dc = words; first = first }) image (zeros work_size))

-- the words of dc, which has 1,984 bytes; else none, and 3 refuses
unfoldable pub encoded : ℕ → List ℕ → List ℕ → List ℕ → Bool → List ℕ → Encoded
encoded psn user side dc first image = encoded_words psn user side (cond (eqb (length dc) dc_size) (words_of dc) []) first image
