-- What document 01 answers of a PSN: 0, 6 or 7, tested in this order.
use Rattle.std.specs.Prelude.{cond, ℕ}
use Rattle.answer.specs.declared.Answer.{Answer}
use Rattle.answer.specs.declared.Answer.TheVariants.{Done, NoMultiple, NoZone}
use Rattle.answer.specs.Answer.{is_done}
use Rattle.address.specs.Zones.{in_data_zone, first_of_cluster}

unfoldable pub judged : ℕ → Answer
judged psn = cond (first_of_cluster psn) (cond (in_data_zone psn) Done (NoZone 0)) (NoMultiple 0)

-- x where the answer is 0, else 0
abbrev pub if_done : Answer → ℕ → ℕ
if_done answer x = cond (is_done answer) x 0
