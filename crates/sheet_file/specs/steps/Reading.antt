-- What is kept of a file while it is read.
use Rattle.std.specs.Prelude.{◌≡◌, cond, List, ◌++◌, ℕ, ◌≤◌, ◌<◌, min, eqb, length, get_or, Option, Some, None}
use Rattle.address_sheet.specs.Sheet.{entry_psn}
use Rattle.address.specs.declared.Psn.{Psn}
use Rattle.notation.specs.Psn.{psn_of}
use Rattle.sheet_file.specs.declared.Line.{Line}
use Rattle.sheet_file.specs.declared.SheetEntries.{SheetEntries}
use Rattle.sheet_file.specs.declared.SheetFile.{SheetFile}
use Rattle.sheet_file.specs.File.{lines_from, trimmed, Entry, entries_from, file_entries, line_of, is_number, wrong_line, psn_at, line_at}

-- eight bytes are held; a text of another size is no PSN
abbrev pub shown_psn : List ℕ → ℕ → Option Psn
shown_psn text size = cond (eqb size 8) (psn_of text) None

-- the bytes `begun` of a line
pub record HoldsLine (begun : List ℕ) (line : Line) : Type 0 where
  pub room : length line.text ≡ 8
  pub held : line.held ≡ min 8 (length begun)
  pub bytes : (k : ℕ) → k < 8 → k < length begun → get_or line.text k 0 ≡ get_or begun k 0
  pub size : line.size ≡ min 9 (length (trimmed begun))

-- a list of entries
pub record HoldsEntries (list : List Entry) (held : SheetEntries) : Type 0 where
  pub psns-room : length held.psns ≡ 64
  pub lines-room : length held.lines ≡ 64
  pub count : held.count ≡ min 65 (length list)
  pub psns : (i : ℕ) → i < 64 → i < length list → entry_psn held.psns i ≡ psn_at list i
  pub lines : (i : ℕ) → i < 64 → i < length list → get_or held.lines i 0 ≡ line_at list i
  pub wrong : held.wrong ≡ wrong_line list

-- the first line that is no PSN, behind one more
abbrev pub wrong_after : Option ℕ → ℕ → Option Psn → Option ℕ
wrong_after (Some wrong) line psn = Some wrong
wrong_after None line psn = cond (is_number psn) None (Some line)

-- what is known of an entry: its PSN, and its line
pub record IsEntry (entry : Entry) (psn : Option Psn) (line : ℕ) : Type 0 where
  pub own-psn : psn ≡ psn_of entry.text
  pub own_line : line ≡ line_of entry

-- the first bytes of a file: the entries of the lines that ended, and the line that is begun; whatever follows
pub record HasRead (bytes : List ℕ) (file : SheetFile) : Type 0 where
  pub ended : List Entry
  pub begun : List ℕ
  pub before : file.before ≤ length bytes
  pub line : HoldsLine begun file.line
  pub entries : HoldsEntries ended file.entries
  pub whole : (rest : List ℕ) → file_entries (bytes ++ rest) ≡ ended ++ entries_from file.before (lines_from begun rest)
