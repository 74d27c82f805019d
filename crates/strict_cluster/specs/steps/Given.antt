-- What is given of an ECC cluster.
use Rattle.std.specs.Prelude.{◌≡◌, List, ℕ}
use Rattle.answer.specs.declared.Answer.{Answer}
use Rattle.answer.specs.Answer.{and_then}
use Rattle.bis.specs.Reading.{side_in}
use Rattle.cluster.specs.Multiplex.{bis_in}
use Rattle.cluster.specs.Reading.{user_in}
use Rattle.strict_cluster.specs.Outcome.{Lent, Outcome, outcome_by}
use Rattle.cluster_tests.specs.steps.Tested.{cluster_answer}

-- user bytes, side data and dc words
pub record Given (work : List ℕ) (block : List (List ℕ)) (stream words user side dc : List ℕ) : Type 0 where
  pub user-is : user ≡ user_in stream work
  pub side-is : side ≡ side_in block
  pub dc-is : dc ≡ words

-- the cluster in work behind the tests before, with the dc words that were read beside it
unfoldable pub cluster_outcome : Answer → List ℕ → List ℕ → Lent → Outcome
cluster_outcome before work words lent = outcome_by (and_then before (cluster_answer (bis_in work) work)) work words lent
