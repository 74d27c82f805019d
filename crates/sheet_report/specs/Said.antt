-- What is printed for a sheet's file: the answer, with the line of the entry that it names; or the first line that is no PSN.
use Rattle.std.specs.Prelude.{◌≡◌, Bool, cond, ◌||◌, List, [], ◌++◌, ℕ, eqb, length, Some, None, Result, Ok, Err}
use Rattle.answer.specs.declared.Answer.{Answer}
use Rattle.answer.specs.Answer.{number_of, place_of}
use Rattle.address_sheet.specs.Promise.{RightSheet}
use Rattle.texts.specs.Text.{the, text_of}
use Rattle.texts.specs.Numbers.{decimal}
use Rattle.report.specs.Words.{meaning}
use Rattle.sheet_file.specs.File.{file_entries, wrong_line, psn_at, line_at, file_answer}
use Rattle.texts.specs.declared.Text.{Text}

-- the place is an entry
abbrev pub names_entry : Answer → Bool
names_entry a = eqb (number_of a) 6 || (eqb (number_of a) 7 || eqb (number_of a) 24)

abbrev pub line_words : Answer → ℕ → List ℕ
line_words a line = cond (names_entry a) (the "line " ++ decimal line ++ the ": ") []

-- number and place in a line, then what they mean, behind the entry's line
unfoldable pub sheet_text : Answer → ℕ → List ℕ
sheet_text a line = decimal (number_of a) ++ the " " ++ decimal (place_of a) ++ the "\n" ++ line_words a line ++ meaning a

-- what is printed, or the first line that is no PSN
unfoldable pub file_said : List ℕ → Result Text ℕ
file_said bytes =
    let answer = file_answer bytes in
    elim (wrong_line (file_entries bytes)) [
      | None ↦ Ok (text_of (sheet_text answer (line_at (file_entries bytes) (place_of answer))))
      | Some line ↦ Err line
    ]

-- of which `0 0` is said: every line is a PSN or blank, and the sheet is right
abbrev pub RightFile : List ℕ → Type 0
RightFile bytes = (wrong_line (file_entries bytes) ≡ None) × RightSheet (length (file_entries bytes)) (psn_at (file_entries bytes))
