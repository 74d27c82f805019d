-- `0 0` is printed for an accepted sheet alone. Assumes nothing.
use mathlib.Core.Path.{◌≡◌, refl, sym, ap, ◌∙◌}
use mathlib.Core.List.{List, ◌∷◌, ◌++◌, append_assoc}
use mathlib.Core.Logic.{◌↔◌}
use Prim.Native.Nat.{ℕ}
use native.Mathlib.Omega.{arith}
use lib.ListN.{length}
use Rattle.answer.specs.declared.Answer.{Answer}
use Rattle.answer.specs.declared.Answer.TheVariants.{Done}
use Rattle.answer.specs.Answer.{number_of, place_of}
use Rattle.answer.proofs.Tests.{number-zero}
use Rattle.address_sheet.proofs.Statements.{sheet-iff}
use Rattle.std.specs.Prelude.{Option, Some, None, Result, Ok, Err}
use Rattle.texts.specs.declared.Text.{Text}
use Rattle.texts.specs.Text.{the, text_of}
use Rattle.texts.specs.Numbers.{decimal_to, decimal}
use Rattle.texts.proofs.Distinct.{decimal-digits, split, decimal-same, text_same}
use Rattle.report.specs.Words.{meaning}
use Rattle.report.proofs.Statements.{number_small}
use Rattle.sheet_file.specs.File.{file_entries, wrong_line, psn_at, line_at, file_answer}
use Rattle.sheet_report.specs.Said.{line_words, sheet_text, file_said, RightFile}

-- the number stands before the first space
zero-text : (a : Answer) (line : ℕ) → sheet_text a line ≡ the "0 0\n" → a ≡ Done
unfolding sheet_text decimal_to
zero-text a line e =
    let rest = decimal (place_of a) ++ the "\n" ++ line_words a line ++ meaning a in
    let same : decimal (number_of a) ++ (32 ∷ rest) ≡ sheet_text a line = simp append_assoc in
    let number = (split (decimal-digits 20 (number_of a)) (decimal-digits 20 0) 32 32 rest (the "0\n") (omega arith) (omega arith) (same ∙ e)).0 in
    number-zero a (decimal-same 20 (number_of a) 0 (number_small a) (omega arith) number)

text-zero : (a : Answer) (line : ℕ) → a ≡ Done → sheet_text a line ≡ the "0 0\n"
unfolding sheet_text decimal_to
text-zero a line e = ap (λ (x : Answer). sheet_text x line) e

module _ (bytes : List ℕ) where
  line : ℕ
  line = line_at (file_entries bytes) (place_of (file_answer bytes))

  -- what is said where w is the first line that is no PSN
  abbrev said : Option ℕ → Result Text ℕ
  said None = Ok (text_of (sheet_text (file_answer bytes) line))
  said (Some w) = Err w

  is-said : file_said bytes ≡ said (wrong_line (file_entries bytes))
  unfolding file_said line
  is-said = by (wrong_line (file_entries bytes))
    where
      by : (w : Option ℕ) → elim w [ None ↦ said None | Some l ↦ Err l ] ≡ said w
      by None = refl
      by (Some w) = refl

  only : (w : Option ℕ) → wrong_line (file_entries bytes) ≡ w → said w ≡ Ok (text_of (the "0 0\n")) → RightFile bytes
  only None t e =
      let same : text_of (sheet_text (file_answer bytes) line) ≡ text_of (the "0 0\n") = cc in
      let done = zero-text (file_answer bytes) line (text_same (sheet_text (file_answer bytes) line) (the "0 0\n") same) in
      (t, (sheet-iff (length (file_entries bytes)) (psn_at (file_entries bytes))).0 done)
  only (Some w) t e = cc

  -- `0 0` IS PRINTED FOR AN ACCEPTED SHEET ALONE
  pub zero-only : (file_said bytes ≡ Ok (text_of (the "0 0\n"))) ↔ RightFile bytes
  zero-only = (
    λ e. only (wrong_line (file_entries bytes)) refl (sym is-said ∙ e),
    λ right.
        is-said
        ∙ ap said right.0
        ∙ ap (λ (l : List ℕ). Ok (text_of l)) (text-zero (file_answer bytes) line ((sheet-iff (length (file_entries bytes)) (psn_at (file_entries bytes))).1 right.1)),
  )
