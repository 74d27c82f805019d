-- Answers 1 to 5 of document 01: the lengths of the slices that an operation is lent.
use Rattle.std.specs.Prelude.{◌≡◌, cond, ℕ, eqb}
use Rattle.answer.specs.declared.Answer.{Answer}
use Rattle.answer.specs.declared.Answer.TheVariants.{Done, WrongUser, WrongSide, WrongDc, WrongImage, WrongWork}
use Rattle.answer.specs.Answer.{and_then}
use Rattle.sizes.specs.Sizes.{work_size, image_size, side_size, frame_count, user_size}

-- a test of a length that has to be `right`
abbrev pub sized : ℕ → ℕ → Answer → Answer
sized size right refusal = cond (eqb size right) Done refusal

-- of user bytes, side data, dc words, image and work, in rising order
unfoldable pub lengths_answer : ℕ → ℕ → ℕ → ℕ → ℕ → Answer
lengths_answer user side dc image work =
    and_then (sized user user_size (WrongUser 0))
    (and_then (sized side side_size WrongSide)
    (and_then (sized dc frame_count WrongDc)
    (and_then (sized image image_size WrongImage)
    (sized work work_size WrongWork))))

-- user bytes, side data, dc words and work have their lengths; that of the image stands beside it
pub record RightLengths (u s d w : ℕ) : Type 0 where
  pub user : u ≡ user_size
  pub side : s ≡ side_size
  pub dc : d ≡ frame_count
  pub work : w ≡ work_size
