-- The tests of an ECC cluster put together. Assumes nothing.
use mathlib.Core.Path.{◌≡◌, refl, ap, ap₂, ◌∙◌}
use mathlib.Core.Bool.{Bool, true, false}
use mathlib.Core.List.{List}
use Prim.Native.Nat.{ℕ}
use Rattle.answer.specs.declared.Answer.{Answer}
use Rattle.answer.specs.Answer.{is_done, and_then}
use Rattle.answer.proofs.Tests.{then-assoc, goes_on, stops}
use Rattle.address.specs.declared.PsnAnswer.{PsnAnswer}
use Rattle.scrambling.specs.Scrambling.{scrambling_of}
use Rattle.judging.specs.Tests.{bis_columns_answer, address_fields_answer, psn_answer, ldc_columns_answer, sectors_answer}
use Rattle.cluster_tests.specs.steps.Tested.{block_tested, cluster_answer, cluster_tested}

-- ---- 12 to 14

pub block-tested : (block : List (List ℕ)) (columns fields inner r : Answer) (found : PsnAnswer) → columns ≡ bis_columns_answer block → fields ≡ address_fields_answer block → found ≡ psn_answer block
    → inner ≡ and_then fields found.answer → r ≡ and_then columns inner → record { answer = r; psn = found.psn } ≡ block_tested block
unfolding block_tested
block-tested block columns fields inner r found ec ef ep ei er =
    let is-answer = er ∙ ap₂ and_then ec (ei ∙ ap₂ and_then ef (ap (λ (p : PsnAnswer). p.answer) ep)) in
    λ i. record { answer = is-answer i; psn = (ep i).psn }

-- ---- 15 and 16; `before` is what the tests before answer, d whether it is `Done`

module _ (stream work : List ℕ) (before : Answer) (d : Bool) (ed : d ≡ is_done before) where
  abbrev data-answer : Answer
  data-answer = and_then (ldc_columns_answer work) (sectors_answer stream work)

  pub refused-before : d ≡ false → before ≡ and_then before data-answer
  refused-before f = stops before data-answer before d refl ed f

  module _ (t : d ≡ true) (columns : Answer) (e : Bool) (ec : columns ≡ ldc_columns_answer work) (ee : e ≡ is_done columns) where
    pub columns-wrong : e ≡ false → columns ≡ and_then before data-answer
    columns-wrong f = goes_on before data-answer before d refl ed columns t (stops (ldc_columns_answer work) (sectors_answer stream work) columns e ec ee f)

    pub sectors-decide : (r : Answer) → e ≡ true → r ≡ sectors_answer stream work → r ≡ and_then before data-answer
    sectors-decide r s er = goes_on before data-answer before d refl ed r t (goes_on (ldc_columns_answer work) (sectors_answer stream work) columns e ec ee r s er)

-- ---- 12 to 16; passed is what is answered up to 14

pub cluster-tested : (before : Answer) (block : List (List ℕ)) (work : List ℕ) (found : PsnAnswer) (stream : List ℕ) (passed r : Answer) → found ≡ block_tested block → stream ≡ scrambling_of found.psn.0
    → passed ≡ and_then before found.answer → r ≡ and_then passed (and_then (ldc_columns_answer work) (sectors_answer stream work))
    → record { answer = r; psn = found.psn; stream = stream } ≡ cluster_tested before block work
unfolding block_tested cluster_answer cluster_tested
cluster-tested before block work found stream passed r ef es ep er =
    let is-stream = es ∙ ap (λ (p : PsnAnswer). scrambling_of p.psn.0) ef in
    let is-passed = ep ∙ ap (λ (p : PsnAnswer). and_then before p.answer) ef in
    let columns = bis_columns_answer block in
    let fields = address_fields_answer block in
    let psn = (psn_answer block).answer in
    let rest = and_then (ldc_columns_answer work) (sectors_answer (scrambling_of (psn_answer block).psn.0) work) in
    let is-answer =
    er
    ∙ ap₂ (λ (a : Answer) (s : List ℕ). and_then a (and_then (ldc_columns_answer work) (sectors_answer s work))) is-passed is-stream
    ∙ then-assoc before (and_then columns (and_then fields psn)) rest
    ∙ ap (and_then before) (then-assoc columns (and_then fields psn) rest ∙ ap (and_then columns) (then-assoc fields psn rest)) in
    λ i. record { answer = is-answer i; psn = (ef i).psn; stream = is-stream i }
