-- The numbers as PSNs, and what is returned: number and place of the sheet's answer. Assumes nothing.
use mathlib.Core.Path.{◌≡◌, sym, ap, ◌∙◌}
use mathlib.Core.List.{List}
use mathlib.Core.Logic.{◌↔◌}
use Prim.Native.Nat.{ℕ}
use lib.ListN.{length}
use Rattle.laws.proofs.Tabulate.{get_d_tabulate}
use Rattle.answer.specs.declared.Answer.{Answer}
use Rattle.answer.specs.Answer.{number_of}
use Rattle.answer.proofs.Tests.{number-zero}
use Rattle.address.specs.declared.Psn.{Psn}
use Rattle.address_sheet.specs.Sheet.{sheet_answer, entry_psn}
use Rattle.address_sheet.specs.Promise.{RightSheet}
use Rattle.address_sheet.proofs.Statements.{sheet-iff, same-sheet}
use Rattle.answer_numbers.specs.declared.Answered.{Answered}
use Rattle.answer_numbers.specs.Numbers.{answered}
use Rattle.export_sheet.specs.Exported.{given_psn, given_psns}

-- the sheet of the PSNs is that of the numbers
as-numbers : (given : List ℕ) → sheet_answer (length given) (entry_psn (given_psns given)) ≡ sheet_answer (length given) (given_psn given)
unfolding given_psns
as-numbers given =
    same-sheet (length given) (entry_psn (given_psns given)) (given_psn given)
    (λ i h most. ap (λ (p : Psn). p.0) (get_d_tabulate {A = Psn} 64 (λ k. record { 0 = given_psn given k }) i (record { 0 = 0 }) most))

-- psns are the PSNs, a is what is answered of them, r what is returned
pub judges-numbers : (given : List ℕ) {psns : List Psn} {a : Answer} {r : Answered} → psns ≡ given_psns given → a ≡ sheet_answer (length given) (entry_psn psns) → r ≡ answered a
    → (r ≡ answered (sheet_answer (length given) (given_psn given))) × ((r.number ≡ 0) ↔ RightSheet (length given) (given_psn given))
judges-numbers given {psns} {a} {r} hp ha hr =
    let is = ha ∙ ap (λ (l : List Psn). sheet_answer (length given) (entry_psn l)) hp ∙ as-numbers given in
    let iff = sheet-iff (length given) (given_psn given) in
    let number : r.number ≡ number_of (sheet_answer (length given) (given_psn given)) = ap (λ (x : Answered). x.number) hr ∙ ap number_of is in
    (hr ∙ ap answered is, (λ e. iff.0 (number-zero (sheet_answer (length given) (given_psn given)) (sym number ∙ e)), λ right. number ∙ ap number_of (iff.1 right)))
