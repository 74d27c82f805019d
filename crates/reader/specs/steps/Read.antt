-- What tests 9 to 11 find in the bits b of an image; where they are passed, the dc words and the ECC cluster.
use Rattle.std.specs.Prelude.{◌≡◌, List, ℕ, length}
use Rattle.sizes.specs.Sizes.{work_size}
use Rattle.answer.specs.declared.Answer.{Answer}
use Rattle.answer.specs.declared.Answer.TheVariants.{Done}
use Rattle.answer.specs.Answer.{and_then}
use Rattle.recording.specs.Reading.{cluster_in, dc_in}
use Rattle.judging.specs.Tests.{last_bits_answer, syncs_answer, frames_answer}

pub record RecordingTested (b : List ℕ) (answer : Answer) (dc work : List ℕ) : Type 0 where
  pub answer-is : answer ≡ and_then (last_bits_answer b) (and_then (syncs_answer b) (frames_answer b))
  pub dc-is : answer ≡ Done → dc ≡ dc_in b
  pub work-is : answer ≡ Done → work ≡ cluster_in b
  pub size : length work ≡ work_size
