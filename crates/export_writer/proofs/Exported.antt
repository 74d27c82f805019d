-- What is returned are the parts of the writer's outcome. Assumes nothing.
use mathlib.Core.Path.{◌≡◌, sym, ap, subst, ◌∙◌}
use mathlib.Core.List.{List}
use Prim.Native.Nat.{ℕ}
use Rattle.answer.specs.declared.Answer.{Answer}
use Rattle.answer.specs.Answer as Answer
use Rattle.image.specs.Image.{Input}
use Rattle.writer.specs.Outcome as writer
use Rattle.writer.specs.Promise.{WritesExactly}
use Rattle.answer_numbers.specs.declared.Answered.{Answered}
use Rattle.export_writer.specs.Exported.{writing}

-- r is what is returned; what is promised of an answer's number is promised of the number that is returned
pub same-writing : {r : Answered} {a : Answer} {image work : List ℕ} {o : writer.Outcome} {input : Input} {before entry : List ℕ} → r ≡ record { number = Answer.number_of a; place = Answer.place_of a }
    → (record { answer = a; image = image; work = work } ≡ o) × WritesExactly input before entry (Answer.number_of a) image work
    → (record { number = r.number; place = r.place; image = image; work = work } ≡ writing o) × WritesExactly input before entry r.number image work
same-writing {image = image} {work = work} {input = input} {before = before} {entry = entry} hr h = (
  ap (λ (r : Answered). record { number = r.number; place = r.place; image = image; work = work }) hr ∙ ap writing h.0,
  subst (λ (r : Answered). WritesExactly input before entry r.number image work) (sym hr) h.1,
)
