-- PSN, user bytes and side data that are given, beside what was read in an image.
use Rattle.std.specs.Prelude.{cond, List, ℕ, eqb, ltb}
use Rattle.laws.specs.Differing.{differs_at}
use Rattle.laws.specs.First.{first}
use Rattle.verdict.specs.declared.Verdict.{Verdict}
use Rattle.verdict.specs.declared.Verdict.TheVariants.{Pass, OtherPsn, OtherUser, OtherSide}
use Rattle.sizes.specs.Sizes.{side_size, user_size}

-- the lowest index below n at which two lists differ, or n
unfoldable pub first_other : ℕ → List ℕ → List ℕ → ℕ
first_other n a b = first n (differs_at a b)

-- PSN, user bytes and side data, each given and read
unfoldable pub compared : ℕ → List ℕ → List ℕ → ℕ → List ℕ → List ℕ → Verdict
compared psn user side found bytes control =
    cond (eqb found psn)
    (cond (ltb (first_other user_size user bytes) user_size) (OtherUser (first_other user_size user bytes)) (cond (ltb (first_other side_size side control) side_size) (OtherSide (first_other side_size side control)) Pass))
    (OtherPsn (record { 0 = found }))
