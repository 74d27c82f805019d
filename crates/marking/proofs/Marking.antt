-- What mark says is the marker's verdict. Assumes nothing.
use mathlib.Core.Path.{◌≡◌, sym, ap, subst, ◌∙◌}
use mathlib.Core.Logic.{◌↔◌}
use mathlib.Core.List.{List}
use Prim.Native.Nat.{ℕ}
use Rattle.laws.specs.Zeros.{zeros}
use Rattle.laws.proofs.Zeros.{length-zeros}
use Rattle.verdict.specs.declared.Verdict.{Verdict}
use Rattle.verdict.specs.declared.Verdict.TheVariants.{Pass}
use Rattle.reader.specs.Outcome as reader
use Rattle.reader.specs.Promise.{RightSlices}
use Rattle.marker.specs.Marked.{IsImageOf, Marked, marked}
use Rattle.texts.specs.declared.Text.{Text}
use Rattle.texts.specs.Text.{the, text_of}
use Rattle.texts.proofs.Distinct.{text_same}
use Rattle.report.specs.Words.{verdict_text}
use Rattle.report.proofs.Statements.{pass-only}
use Rattle.marking.specs.Marking.{room, mark_text}

fitting : RightSlices room
fitting = record { user = length-zeros 65536; side = length-zeros 592; dc = length-zeros 496; work = length-zeros 76880 }

-- the line `pass` says the same as a pass
same-pass : (v : Verdict) (t : Text) (P : Type 0) → t ≡ text_of (verdict_text v) → (v ≡ Pass) ↔ P → (t ≡ text_of (the "pass\n")) ↔ P
unfolding verdict_text
same-pass v t P ht h =
    (λ e. h.0 (pass-only v (text_same (verdict_text v) (the "pass\n") (sym ht ∙ e))), λ p. ht ∙ ap (λ (w : Verdict). text_of (verdict_text w)) (h.1 p))

pub mark-is : (psn : ℕ) (user side image bytes control dc work : List ℕ) (lent : reader.Lent) (v : Verdict) (t : Text)
    → (record { verdict = v; lent = lent } ≡ marked psn user side image (record { user = bytes; side = control; dc = dc; work = work }))
    × (RightSlices (record { user = bytes; side = control; dc = dc; work = work }) → (v ≡ Pass) ↔ IsImageOf psn user side image)
    → bytes ≡ zeros 65536 → control ≡ zeros 592 → dc ≡ zeros 496 → work ≡ zeros 76880 → t ≡ text_of (verdict_text v)
    → (t ≡ text_of (mark_text psn user side image)) × ((t ≡ text_of (the "pass\n")) ↔ IsImageOf psn user side image)
unfolding mark_text
mark-is psn user side image bytes control dc work lent v t h hu hs hd hw ht =
    let before : reader.Lent = record { user = bytes; side = control; dc = dc; work = work } in
    let zero-filled : before ≡ room = λ i. record { user = hu i; side = hs i; dc = hd i; work = hw i } in
    let fits : RightSlices before = subst RightSlices (sym zero-filled) fitting in
    let verdict : v ≡ (marked psn user side image room).verdict =
    ap (λ (m : Marked). m.verdict) h.0 ∙ ap (λ (l : reader.Lent). (marked psn user side image l).verdict) zero-filled in
    (ht ∙ ap (λ (w : Verdict). text_of (verdict_text w)) verdict, same-pass v t (IsImageOf psn user side image) ht (h.1 fits))
