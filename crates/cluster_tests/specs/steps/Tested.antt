-- What the tests find in an ECC cluster.
use Rattle.std.specs.Prelude.{List, ℕ}
use Rattle.answer.specs.declared.Answer.{Answer}
use Rattle.answer.specs.Answer.{and_then}
use Rattle.address.specs.declared.PsnAnswer.{PsnAnswer}
use Rattle.scrambling.specs.Scrambling.{scrambling_of}
use Rattle.judging.specs.Tests.{bis_columns_answer, address_fields_answer, psn_answer, ldc_columns_answer, sectors_answer}
use Rattle.cluster_tests.specs.declared.steps.Tested.{Tested}

-- 12 to 14, and the PSN
unfoldable pub block_tested : List (List ℕ) → PsnAnswer
block_tested block = record { answer = and_then (bis_columns_answer block) (and_then (address_fields_answer block) (psn_answer block).answer); psn = (psn_answer block).psn }

-- 12 to 16
unfoldable pub cluster_answer : List (List ℕ) → List ℕ → Answer
cluster_answer block work =
    and_then (bis_columns_answer block)
    (and_then (address_fields_answer block)
    (and_then (psn_answer block).answer
    (and_then (ldc_columns_answer work)
    (sectors_answer (scrambling_of (psn_answer block).psn.0) work))))

-- all that the tests find, behind those before
unfoldable pub cluster_tested : Answer → List (List ℕ) → List ℕ → Tested
cluster_tested before block work = record { answer = and_then before (cluster_answer block work); psn = (psn_answer block).psn; stream = scrambling_of (psn_answer block).psn.0 }
