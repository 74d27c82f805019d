-- A sheet as a file (document 02, W-211): a PSN a line, eight hexadecimal digits; blank lines are passed over.
use Rattle.std.specs.Prelude.{Bool, true, false, cond, ◌||◌, List, [], ◌∷◌, ◌++◌, ℕ, suc, eqb, length, get_or, Option, Some, None}
use Rattle.answer.specs.declared.Answer.{Answer}
use Rattle.address_sheet.specs.Sheet.{sheet_answer}
use Rattle.address.specs.declared.Psn.{Psn}
use Rattle.notation.specs.Psn.{psn_of}

-- ---- lines

-- the lines of a text, each ended by a line feed, the last by the text's end; `begun` is what stands of the first one already
unfoldable pub lines_from : List ℕ → List ℕ → List (List ℕ)
lines_from begun [] = begun ∷ []
lines_from begun (b ∷ text) = cond (eqb b 10) (begun ∷ lines_from [] text) (lines_from (begun ++ (b ∷ [])) text)

-- a tab, a carriage return, a space
abbrev pub is_white : ℕ → Bool
is_white b = eqb b 9 || (eqb b 13 || eqb b 32)

abbrev pub trimmed_to : ℕ → List ℕ → List ℕ
trimmed_to b [] = cond (is_white b) [] (b ∷ [])
trimmed_to b (c ∷ rest) = b ∷ (c ∷ rest)

-- what stands on a line: white bytes at its end do not count; nothing on a blank one
unfoldable pub trimmed : List ℕ → List ℕ
trimmed [] = []
trimmed (b ∷ line) = trimmed_to b (trimmed line)

-- ---- entries: the lines that are not blank

-- how many lines stand before it, and what stands on it
pub record Entry : Type 0 where
  pub before : ℕ
  pub text : List ℕ

abbrev pub entry_on : ℕ → List ℕ → List Entry
entry_on n [] = []
entry_on n (b ∷ text) = record { before = n; text = b ∷ text } ∷ []

-- of lines before which n stand
unfoldable pub entries_from : ℕ → List (List ℕ) → List Entry
entries_from n [] = []
entries_from n (line ∷ lines) = entry_on n (trimmed line) ++ entries_from (suc n) lines

abbrev pub file_entries : List ℕ → List Entry
file_entries bytes = entries_from 0 (lines_from [] bytes)

-- lines are counted from 1
abbrev pub line_of : Entry → ℕ
line_of entry = suc entry.before

abbrev pub is_number : Option Psn → Bool
is_number (Some psn) = true
is_number None = false

abbrev pub number_in : Option Psn → ℕ
number_in (Some psn) = psn.0
number_in None = 0

-- the line of the first entry that is no PSN
unfoldable pub wrong_line : List Entry → Option ℕ
wrong_line [] = None
wrong_line (entry ∷ rest) = cond (is_number (psn_of entry.text)) (wrong_line rest) (Some (line_of entry))

abbrev pub file_entry : List Entry → ℕ → Entry
file_entry list i = get_or list i (record { before = 0; text = [] })

-- PSN and line of entry i
abbrev pub psn_at : List Entry → ℕ → ℕ
psn_at list i = number_in (psn_of (file_entry list i).text)

abbrev pub line_at : List Entry → ℕ → ℕ
line_at list i = line_of (file_entry list i)

-- what is answered of the sheet, where every entry is a PSN
abbrev pub file_answer : List ℕ → Answer
file_answer bytes = sheet_answer (length (file_entries bytes)) (psn_at (file_entries bytes))
