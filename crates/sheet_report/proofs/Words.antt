-- The words of a sheet's answer, and that they are those of its file. Assumes nothing.
use mathlib.Core.Path.{◌≡◌, refl, sym, ap, ap₂, ◌∙◌}
use mathlib.Core.Bool.{Bool, true, false, cond, false≢true}
use mathlib.Core.List.{List, [], ◌++◌, append_assoc}
use Prim.Native.Nat.{ℕ, ◌<◌, ◌≤◌}
use native.Mathlib.Decide.{dec_lt}
use native.Mathlib.Omega.{arith}
use lib.ListN.{length, get_or, length-append}
use Rattle.answer.specs.declared.Answer.{Answer}
use Rattle.answer.specs.Answer.{number_of, place_of, is_done}
use Rattle.answer.proofs.Tests.{done-is}
use Rattle.address_sheet.specs.Sheet.{sheet_answer, entry_psn}
use Rattle.address_sheet.specs.Promise.{RightCount}
use Rattle.address_sheet.proofs.Statements.{refused-count, same-sheet, place-within, count-else}
use Rattle.std.specs.Prelude.{Option, Some, None, Result, Ok, Err}
use Rattle.texts.specs.declared.Text.{Text}
use Rattle.texts.specs.Text.{the, text_of, blank_text, added}
use Rattle.texts.specs.Numbers.{decimal}
use Rattle.texts.proofs.Texts.{added-two, added-three, from-blank}
use Rattle.texts.proofs.Numbers.{decimal-short}
use Rattle.report.specs.Words.{meaning}
use Rattle.report.proofs.Words.{meaning-short}
use Rattle.sheet_file.specs.declared.SheetEntries.{SheetEntries}
use Rattle.sheet_file.specs.File.{Entry, file_entries, psn_at, line_at, file_answer}
use Rattle.sheet_file.specs.steps.Reading.{HoldsEntries}
use Rattle.sheet_report.specs.Said.{names_entry, line_words, sheet_text, file_said}

-- ---- an entry is named

-- t is whether it is
module _ (a : Answer) (line : ℕ) (text : Text) {t : Bool} (ht : t ≡ names_entry a) where
  words : (u : Bool) → t ≡ u → cond u (the "line " ++ decimal line ++ the ": ") [] ≡ line_words a line
  words u e = ap (λ (u : Bool). cond u (the "line " ++ decimal line ++ the ": ") []) (sym e ∙ ht)

  pub line-put : {r : Text} → t ≡ true → r ≡ added text (the "line " ++ decimal line ++ the ": ") → r ≡ added text (line_words a line)
  line-put e hr = hr ∙ ap (added text) (words true e)

  pub line-not : t ≡ false → text ≡ added text (line_words a line)
  unfolding added
  line-not e = ap (added text) (words false e)

-- ---- the whole text; b is the blank text that is begun with

sheet-short : (a : Answer) (line : ℕ) → length (sheet_text a line) ≤ 256
unfolding sheet_text
sheet-short a line = by (names_entry a)
  where
    by : (t : Bool) → length (decimal (number_of a) ++ the " " ++ decimal (place_of a) ++ the "\n" ++ cond t (the "line " ++ decimal line ++ the ": ") [] ++ meaning a) ≤ 256
    by true = simp length-append (omega (arith, decimal-short 20 (number_of a), decimal-short 20 (place_of a), decimal-short 20 line, meaning-short a))
    by false = simp length-append (omega (arith, decimal-short 20 (number_of a), decimal-short 20 (place_of a), meaning-short a))

pub sheet-is : (a : Answer) (line : ℕ) {number place : ℕ} {b t u w v : Text} → b ≡ blank_text → number ≡ number_of a → t ≡ added b (decimal number) → place ≡ place_of a
    → u ≡ added t (the " " ++ decimal place ++ the "\n") → w ≡ added u (line_words a line) → v ≡ added w (meaning a) → v ≡ text_of (sheet_text a line)
unfolding sheet_text
sheet-is a line {number} {place} {b} {t} {u} {w} {v} hb hn ht hp hu hw hv =
    let front = decimal number ++ (the " " ++ decimal place ++ the "\n") in
    let whole = added-three b front (line_words a line) (meaning a) u w v (added-two b (decimal number) (the " " ++ decimal place ++ the "\n") t u ht hu) hw hv in
    let same : front ++ line_words a line ++ meaning a ≡ sheet_text a line =
    ap₂ (λ (m n : ℕ). (decimal m ++ (the " " ++ decimal n ++ the "\n")) ++ line_words a line ++ meaning a) hn hp ∙ simp append_assoc in
    from-blank (sheet_text a line) v (sheet-short a line) (whole ∙ ap₂ added hb same)

-- what names no entry names no line
no_line : (a : Answer) (m n : ℕ) → names_entry a ≡ false → sheet_text a m ≡ sheet_text a n
unfolding sheet_text
no_line a m n e =
    let none : (k : ℕ) → line_words a k ≡ [] = λ k. ap (λ (t : Bool). cond t (the "line " ++ decimal k ++ the ": ") []) e in
    ap (λ (l : List ℕ). decimal (number_of a) ++ the " " ++ decimal (place_of a) ++ the "\n" ++ l ++ meaning a) (none m ∙ sym (none n))

-- ---- what is held of a list of entries gives its answer and its line

named-not-done : (a : Answer) → names_entry a ≡ true → is_done a ≡ false
named-not-done a e = by (is_done a) refl
  where
    by : (t : Bool) → is_done a ≡ t → t ≡ false
    by true t = absurd (false≢true (sym (ap names_entry (done-is a t)) ∙ e))
    by false t = refl

module _ {list : List Entry} {held : SheetEntries} (holds : HoldsEntries list held) where
  abbrev own : Answer
  own = sheet_answer (length list) (psn_at list)

  kept-answer : sheet_answer held.count (entry_psn held.psns) ≡ own
  kept-answer =
      elim (dec_lt 64 (length list)) [
        | yes many ↦
            refused-count held.count (entry_psn held.psns) (λ right. omega (arith, right.most, holds.count, many))
            ∙ sym (refused-count (length list) (psn_at list) (λ right. omega (arith, right.most, many)))
        | no few ↦
            ap (λ (n : ℕ). sheet_answer n (entry_psn held.psns)) {y = length list} (omega (arith, holds.count, few))
            ∙ same-sheet (length list) (entry_psn held.psns) (psn_at list) (λ i h most. holds.psns i most h)
      ]

  kept_line : names_entry own ≡ true → get_or held.lines (place_of own) 0 ≡ line_at list (place_of own)
  kept_line named =
      let right : RightCount (length list) = count-else (length list) (psn_at list) (λ e. false≢true (sym (ap names_entry e) ∙ named)) in
      let within : place_of own < length list = place-within (length list) (psn_at list) right (named-not-done own named) in
      holds.lines (place_of own) (omega (arith, within, right.most)) within

  kept-text : sheet_text own (get_or held.lines (place_of own) 0) ≡ sheet_text own (line_at list (place_of own))
  kept-text = by (names_entry own) refl
    where
      by : (t : Bool) → names_entry own ≡ t → sheet_text own (get_or held.lines (place_of own) 0) ≡ sheet_text own (line_at list (place_of own))
      by true t = ap (sheet_text own) (kept_line t)
      by false t = no_line own (get_or held.lines (place_of own) 0) (line_at list (place_of own)) t

-- ---- what is said of a file

module _ (bytes : List ℕ) {held : SheetEntries} (holds : HoldsEntries (file_entries bytes) held) where
  abbrev text_now : Text
  text_now = text_of (sheet_text (file_answer bytes) (line_at (file_entries bytes) (place_of (file_answer bytes))))

  is : {w : Option ℕ} → held.wrong ≡ w → elim w as (λ _. Result Text ℕ) [ None ↦ Ok text_now | Some line ↦ Err line ] ≡ file_said bytes
  unfolding file_said
  is e = ap (λ (w : Option ℕ). elim w as (λ _. Result Text ℕ) [ None ↦ Ok text_now | Some line ↦ Err line ]) (sym e ∙ holds.wrong)

  pub wrong-said : {line : ℕ} → held.wrong ≡ Some line → Err line ≡ file_said bytes
  wrong-said e = is e

  -- a is what is answered, line that of its place
  pub right-said : {a : Answer} {place line : ℕ} {text : Text} → held.wrong ≡ None → a ≡ sheet_answer held.count (entry_psn held.psns) → place ≡ place_of a
      → line ≡ get_or held.lines place 0 → text ≡ text_of (sheet_text a line) → Ok text ≡ file_said bytes
  right-said {a} {place} {line} {text} none ha hp hl ht =
      let own : a ≡ file_answer bytes = ha ∙ kept-answer holds in
      let at : line ≡ get_or held.lines (place_of (file_answer bytes)) 0 = hl ∙ ap (λ (n : ℕ). get_or held.lines n 0) (hp ∙ ap place_of own) in
      let same : text ≡ text_now = ht ∙ ap₂ (λ (x : Answer) (n : ℕ). text_of (sheet_text x n)) own at ∙ ap text_of (kept-text holds) in
      ap (λ (t : Text). Ok t) same ∙ is none
