-- What decode says, whether what it read is kept, and what it leaves in the slices that it is lent.
use Rattle.std.specs.Prelude.{Bool, cond, List, [], ◌≡◌, ℕ, eqb, length}
use Rattle.laws.specs.Zeros.{zeros}
use Rattle.answer.specs.declared.Answer.{Answer}
use Rattle.answer.specs.Answer.{is_done}
use Rattle.notation.specs.Words.{bytes_read}
use Rattle.reader.specs.Outcome as reader
use Rattle.texts.specs.declared.Text.{Text}
use Rattle.texts.specs.Text.{text_of}
use Rattle.report.specs.Words.{answer_text, read_text}
use Rattle.sizes.specs.Sizes.{work_size, dc_size, frame_count}

pub record Decoded : Type 0 where
  pub keep : Bool
  pub text : Text
  pub user : List ℕ
  pub side : List ℕ
  pub dc : List ℕ

-- on 0 the PSN, the first # and the bytes of the dc words; else the answer's text, and dc as it was
abbrev pub text_for : Answer → ℕ → Bool → Text
text_for a psn first = cond (is_done a) (text_of (read_text psn first)) (text_of (answer_text a))

abbrev pub dc_for : Answer → List ℕ → List ℕ → List ℕ
dc_for a words dc = cond (is_done a) (bytes_read words dc) dc

abbrev pub decoded_by : reader.Outcome → List ℕ → Decoded
decoded_by o dc = record {
  keep = is_done o.answer;
  text = text_for o.answer o.psn o.first;
  user = o.lent.user;
  side = o.lent.side;
  dc = dc_for o.answer o.lent.dc dc;
}

abbrev pub decoded_words : List ℕ → List ℕ → List ℕ → List ℕ → List ℕ → Decoded
decoded_words image user side words dc = decoded_by (reader.outcome image (record { user = user; side = side; dc = words; work = zeros work_size })) dc

-- into a dc slice of 1,984 bytes; into another no words go, and 3 refuses
unfoldable pub decoded : List ℕ → List ℕ → List ℕ → List ℕ → Decoded
decoded image user side dc = decoded_words image user side (cond (eqb (length dc) dc_size) (zeros frame_count) []) dc

-- what is said of an answer, a PSN, a first # and the words read with them, and what stands in dc then
pub record SaidOf (a : Answer) (psn : ℕ) (first : Bool) (words before : List ℕ) (keep : Bool) (text : Text) (dc : List ℕ) : Type 0 where
  pub keep-is : keep ≡ is_done a
  pub text-is : text ≡ text_for a psn first
  pub dc-is : dc ≡ dc_for a words before
