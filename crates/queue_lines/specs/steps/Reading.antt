-- What is kept of a text while it is read.
use Rattle.std.specs.Prelude.{◌≡◌, Bool, true, false, cond, ◌&&◌, List, [], ◌∷◌, ◌++◌, map, ℕ, ◌+◌, ◌*◌, ◌≤◌, min, eqb, leb, length, take}
use Rattle.notation.specs.Psn.{digit_of}
use Rattle.texts.specs.declared.Text.{Text}
use Rattle.queue_lines.specs.declared.RecordLine.{RecordLine}
use Rattle.queue_lines.specs.declared.RecordsRead.{RecordsRead}
use Rattle.queue_lines.specs.declared.steps.LineRecord.{LineRecord}
use Rattle.queue_lines.specs.Lines.{lines_of, is_digit, record_on, said_of, text_said}

-- the bytes `begun` of a line
pub record HoldsRecordLine (begun : List ℕ) (line : RecordLine) : Type 0 where
  pub room : length line.text ≡ 12
  pub size : line.size ≡ min 13 (length begun)
  pub bytes : length begun ≤ 12 → take (length begun) line.text ≡ begun

-- the byte of two digits, 256 for any other two
abbrev pub pair_of : ℕ → ℕ → ℕ
pair_of high low = cond (is_digit high && is_digit low) (digit_of high * 16 + digit_of low) 256

-- twelve bytes are held; a longer line stands for the record without bytes
unfoldable pub shown_record : List ℕ → ℕ → List ℕ
shown_record text size = cond (leb size 12) (record_on (take size text)) []

pub record HoldsRecord (bytes : List ℕ) (held : LineRecord) : Type 0 where
  pub room : length held.bytes ≡ 6
  pub within : held.count ≤ 6
  pub first-ones : take held.count held.bytes ≡ bytes

-- no line feed stands in it
unfoldable pub unbroken : List ℕ → Bool
unbroken [] = true
unbroken (b ∷ text) = cond (eqb b 10) false (unbroken text)

-- what is printed of a text
abbrev pub shown_bytes : Text → List ℕ
shown_bytes text = take text.size text.bytes

-- the first bytes of a text, what was printed for the lines that ended, and the line that is begun; whatever follows
pub record HasRead (bytes printed : List ℕ) (read : RecordsRead) : Type 0 where
  pub begun : List ℕ
  pub one_line : unbroken begun ≡ true
  pub line : HoldsRecordLine begun read.line
  pub whole : (rest : List ℕ) → text_said (bytes ++ rest) ≡ printed ++ said_of read.queue (map record_on (lines_of (begun ++ rest)))
