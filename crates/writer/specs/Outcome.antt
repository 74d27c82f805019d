-- Document 01's table, writing: the answer and the two slices that are lent to be written, as they are at exit.
use Rattle.std.specs.Prelude.{cond, List, ℕ, length}
use Rattle.answer.specs.declared.Answer.{Answer}
use Rattle.answer.specs.Answer.{is_done, and_then}
use Rattle.lengths.specs.Lengths.{lengths_answer}
use Rattle.input_tests.specs.Parts.{parts_answer}
use Rattle.image.specs.Image.{Input, cluster, image}

-- ---- the tests 1 to 8, in rising order

-- 1 to 8; the lengths of image and work
unfoldable pub answer : Input → ℕ → ℕ → Answer
answer input image work =
    and_then (lengths_answer (length input.user) (length input.side) (length input.dc) image work) (parts_answer input.psn input.dc)

-- ---- the outcome

pub record Outcome : Type 0 where
  pub answer : Answer
  pub image : List ℕ
  pub work : List ℕ

-- done: the image and the ECC cluster; refused: both slices as they were
abbrev pub written : Input → Answer → List ℕ → List ℕ → Outcome
written input a before work = record { answer = a; image = cond (is_done a) (image input) before; work = cond (is_done a) (cluster input) work }

-- from the input and the two slices at entry
unfoldable pub outcome : Input → List ℕ → List ℕ → Outcome
outcome input before work = written input (answer input (length before) (length work)) before work
