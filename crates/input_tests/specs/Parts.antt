-- Document 01's tests 6 to 8.
use Rattle.std.specs.Prelude.{Bool, List, ℕ, ltb, get_or}
use Rattle.laws.specs.First.{first}
use Rattle.sizes.specs.Sizes.{frame_count}
use Rattle.answer.specs.declared.Answer.{Answer}
use Rattle.answer.specs.declared.Answer.TheVariants.{DcWord}
use Rattle.answer.specs.Answer.{and_then, lowest}
use Rattle.address.specs.Judged.{judged}

-- 8: the first dc word above 0FFFFFFFh
unfoldable pub too_large : List ℕ → ℕ → Bool
too_large dc n = ltb 0x0FFF_FFFF (get_or dc n 0)

unfoldable pub first_too_large : List ℕ → ℕ
first_too_large dc = first frame_count (too_large dc)

-- 6 to 8: the PSN and the dc words
abbrev pub parts_answer : ℕ → List ℕ → Answer
parts_answer psn dc = and_then (judged psn) (lowest DcWord frame_count (first_too_large dc))
