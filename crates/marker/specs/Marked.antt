-- The marker's verdict on an image, and what it leaves in the slices that it is lent.
use Rattle.std.specs.Prelude.{◌≡◌, Bool, cond, List, ℕ, length}
use Rattle.answer.specs.declared.Answer.TheVariants.{WrongUser, WrongSide}
use Rattle.answer.specs.Answer.{is_done, and_then}
use Rattle.lengths.specs.Lengths.{sized}
use Rattle.image.specs.Image as Image
use Rattle.reader.specs.Outcome.{Lent, Outcome, outcome}
use Rattle.verdict.specs.declared.Verdict.{Verdict}
use Rattle.verdict.specs.declared.Verdict.TheVariants.{Refused}
use Rattle.comparison.specs.Compared.{compared}
use Rattle.sizes.specs.Sizes.{side_size, user_size}

-- ---- what a pass says

-- some dc words and some first # make an accepted input whose image this is: the demands leave the dc-control bits to the participant, 14.2.2.4 the
-- first # to the recorder
pub record IsImageOf (psn : ℕ) (user side image : List ℕ) : Type 0 where
  pub dc : List ℕ
  pub first : Bool
  pub accepted : Image.IsAccepted (record { user = user; psn = psn; side = side; dc = dc; first = first })
  pub image-is : image ≡ Image.image (record { user = user; psn = psn; side = side; dc = dc; first = first })

-- ---- the verdict, test by test

abbrev pub verdict_of : ℕ → List ℕ → List ℕ → Outcome → Verdict
verdict_of psn user side read = cond (is_done read.answer) (compared psn user side read.psn read.lent.user read.lent.side) (Refused read.answer)

pub record Marked : Type 0 where
  pub verdict : Verdict
  pub lent : Lent

-- the lent slices are left as the reader leaves them
abbrev pub marked_read : ℕ → List ℕ → List ℕ → Outcome → Marked
marked_read psn user side read = record { verdict = verdict_of psn user side read; lent = read.lent }

-- where what is given has another length, by 1 or 2, as they were
unfoldable pub marked : ℕ → List ℕ → List ℕ → List ℕ → Lent → Marked
marked psn user side image before =
    let given = and_then (sized (length user) user_size (WrongUser 0)) (sized (length side) side_size WrongSide) in
    cond (is_done given) (marked_read psn user side (outcome image before)) (record { verdict = Refused given; lent = before })
