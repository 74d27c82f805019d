-- What is returned are the parts of the reader's outcome; what is promised of an answer's number is promised of the number that is returned. Assumes nothing.
use mathlib.Core.Path.{◌≡◌, sym, ap, subst, ◌∙◌}
use mathlib.Core.Bool.{Bool}
use mathlib.Core.List.{List}
use Prim.Native.Nat.{ℕ}
use Rattle.answer.specs.declared.Answer.{Answer}
use Rattle.answer.specs.Answer as Answer
use Rattle.reader.specs.Outcome as reader
use Rattle.reader.specs.Promise.{ReadsExactly}
use Rattle.answer_numbers.specs.declared.ReadAnswered.{ReadAnswered}
use Rattle.export_reader.specs.Exported.{reading}

pub same-reading : {r : ReadAnswered} {a : Answer} {psn : ℕ} {first : Bool} {lent : reader.Lent} {o : reader.Outcome} {l : List ℕ} {before : reader.Lent}
    → r ≡ record { number = Answer.number_of a; psn = psn; place = Answer.place_of a; first = first }
    → (record { answer = a; psn = psn; first = first; lent = lent } ≡ o) × ReadsExactly l before (Answer.number_of a) psn first lent
    → (record { number = r.number; place = r.place; psn = r.psn; first = r.first; lent = lent } ≡ reading o) × ReadsExactly l before r.number r.psn r.first lent
same-reading {lent = lent} {l = l} {before = before} hr h = (
  ap (λ (r : ReadAnswered). record { number = r.number; place = r.place; psn = r.psn; first = r.first; lent = lent }) hr ∙ ap reading h.0,
  subst (λ (r : ReadAnswered). ReadsExactly l before r.number r.psn r.first lent) (sym hr) h.1,
)
