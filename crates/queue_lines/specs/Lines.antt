-- Records of the queue as a text (document 02, W-214): a record a line, hexadecimal digits, two a byte; what is printed for each.
use Rattle.std.specs.Prelude.{Bool, true, false, cond, ◌&&◌, List, [], ◌∷◌, ◌++◌, map, ℕ, ◌+◌, ◌*◌, eqb, ltb}
use Rattle.notation.specs.Psn.{digit_of}
use Rattle.order_queue.specs.declared.Queue.{Queue}
use Rattle.order_queue.specs.Queue.{empty_queue, handled}
use Rattle.queue_report.specs.Said.{handled_text}

-- ---- lines

-- a byte before the first line
abbrev pub begun_by : ℕ → List (List ℕ) → List (List ℕ)
begun_by b [] = (b ∷ []) ∷ []
begun_by b (line ∷ lines) = (b ∷ line) ∷ lines

-- the lines of a text: a line feed ends each; what stands behind the last line feed is a line too, unless it is empty
unfoldable pub lines_of : List ℕ → List (List ℕ)
lines_of [] = []
lines_of (b ∷ text) = cond (eqb b 10) ([] ∷ lines_of text) (begun_by b (lines_of text))

-- ---- the record on a line

abbrev pub is_digit : ℕ → Bool
is_digit b = ltb (digit_of b) 16

-- whether it is an even number of hexadecimal digits
unfoldable pub is_record_text : List ℕ → Bool
is_record_text [] = true
is_record_text (high ∷ []) = false
is_record_text (high ∷ (low ∷ line)) = is_digit high && (is_digit low && is_record_text line)

-- two digits a byte, the first the higher
unfoldable pub pair_bytes : List ℕ → List ℕ
pair_bytes [] = []
pair_bytes (high ∷ []) = []
pair_bytes (high ∷ (low ∷ line)) = (digit_of high * 16 + digit_of low) ∷ pair_bytes line

-- other text stands for the record without bytes, which gets 26 as well
unfoldable pub record_on : List ℕ → List ℕ
record_on line = cond (is_record_text line) (pair_bytes line) []

-- ---- what is printed

-- of records one after the other
unfoldable pub said_of : Queue → List (List ℕ) → List ℕ
said_of queue [] = []
said_of queue (bytes ∷ records) = handled_text (handled queue bytes) ++ said_of (handled queue bytes).queue records

-- of a text, from an empty queue on
unfoldable pub text_said : List ℕ → List ℕ
text_said text = said_of empty_queue (map record_on (lines_of text))
