-- What is returned are the parts of the outcome. Assumes nothing.
use mathlib.Core.Path.{◌≡◌, sym, ap, subst, ◌∙◌}
use mathlib.Core.List.{List}
use Prim.Native.Nat.{ℕ}
use Rattle.answer.specs.declared.Answer.{Answer}
use Rattle.answer.specs.Answer as Answer
use Rattle.answer_numbers.specs.declared.Answered.{Answered}
use Rattle.column_parity.specs.Outcome.{Outcome}
use Rattle.column_parity.specs.Promise.{CompletesExactly}
use Rattle.export_parity.specs.Exported.{completing}

-- r is what is returned; what is promised of an answer's number is promised of the number that is returned
pub same-completing : {r : Answered} {a : Answer} {message before after : List ℕ} {o : Outcome} → r ≡ record { number = Answer.number_of a; place = Answer.place_of a }
    → (record { answer = a; parity = after } ≡ o) × CompletesExactly message before (Answer.number_of a) after
    → (record { number = r.number; place = r.place; parity = after } ≡ completing o) × CompletesExactly message before r.number after
same-completing {message = message} {before = before} {after = after} hr h = (
  ap (λ (r : Answered). record { number = r.number; place = r.place; parity = after }) hr ∙ ap completing h.0,
  subst (λ (r : Answered). CompletesExactly message before r.number after) (sym hr) h.1,
)
