-- What test 11 answers and leaves; b are the bits from the recording's first on.
use Rattle.std.specs.Prelude.{◌≡◌, List, ℕ, length}
use Rattle.sizes.specs.Sizes.{work_size}
use Rattle.answer.specs.declared.Answer.{Answer}
use Rattle.answer.specs.declared.Answer.TheVariants.{Done}
use Rattle.recording.specs.Reading.{cluster_in, dc_in}
use Rattle.judging.specs.Tests.{frames_answer}

pub record FramesTested (b : List ℕ) (answer : Answer) (dc work : List ℕ) : Type 0 where
  pub answer-is : answer ≡ frames_answer b
  pub dc-is : answer ≡ Done → dc ≡ dc_in b
  pub work-is : answer ≡ Done → work ≡ cluster_in b
  pub size : length work ≡ work_size
