-- The steps of reading put together: what the tests found decides what is answered and left. Assumes nothing.
use mathlib.Core.Path.{◌≡◌, sym, ap, ◌∙◌}
use mathlib.Core.Bool.{Bool, true, false, cond}
use mathlib.Core.List.{List}
use Prim.Native.Nat.{ℕ}
use borrow.Author.Tests.{eq-eqb}
use lib.ListN.{length}
use Rattle.laws.specs.Tabulate.{tabulate}
use Rattle.answer.specs.declared.Answer.{Answer}
use Rattle.answer.specs.Answer.{is_done, and_then}
use Rattle.answer.proofs.Tests.{done-is}
use Rattle.bis.specs.Reading.{side_in, side_out}
use Rattle.cluster.specs.Multiplex.{bis_in}
use Rattle.cluster.specs.Reading.{user_in}
use Rattle.scrambling.proofs.Stream.{length-scrambling}
use Rattle.judging.specs.Tests.{psn_answer}
use Rattle.cluster_tests.specs.declared.steps.Tested.{Tested}
use Rattle.strict_cluster.specs.Outcome.{Lent, accepted, cleared}
use Rattle.cluster_tests.specs.steps.Tested.{cluster_answer, cluster_tested}
use Rattle.strict_cluster.specs.steps.Given.{Given, cluster_outcome}

-- ---- what is given

pub stream-length : (before : Answer) (block : List (List ℕ)) (work : List ℕ) (r : Tested) → r ≡ cluster_tested before block work → length r.stream ≡ 2052
unfolding cluster_tested
stream-length before block work r e = ap (λ (x : Tested). length x.stream) e ∙ length-scrambling (psn_answer block).psn.0

pub given-all : (work : List ℕ) (block : List (List ℕ)) (stream words user side dc before : List ℕ) → user ≡ user_in stream work → side ≡ side_out block before → length before ≡ 592 → dc ≡ words
    → Given work block stream words user side dc
unfolding side_out
given-all work block stream words user side dc before eu es size ew =
    record { user-is = eu; side-is = es ∙ ap (λ (t : Bool). cond t (side_in block) before) (eq-eqb (length before) 592 size); dc-is = ew }

-- ---- the outcome; d is whether the tests are passed

module _ (before : Answer) (work words user side dc : List ℕ) (block : List (List ℕ)) (r : Tested) (d : Bool) (eb : block ≡ bis_in work) (er : r ≡ cluster_tested before block work)
    (ed : d ≡ is_done r.answer) where
  abbrev lent : Lent
  lent = record { user = user; side = side; dc = dc; work = work }

  abbrev all-tests : Answer
  all-tests = and_then before (cluster_answer (bis_in work) work)

  is-tested : r ≡ cluster_tested before (bis_in work) work
  is-tested = er ∙ ap (λ (l : List (List ℕ)). cluster_tested before l work) eb

  is-answer : r.answer ≡ all-tests
  unfolding cluster_tested
  is-answer = ap (λ (x : Tested). x.answer) is-tested

  by_tests : (t : Bool) → d ≡ t → cond t (accepted work words) (record { answer = all-tests; psn = 0; lent = cleared lent }) ≡ cluster_outcome before work words lent
  unfolding cluster_outcome
  by_tests t e = sym (ap (λ (t : Bool). cond t (accepted work words) (record { answer = all-tests; psn = 0; lent = cleared lent })) (ap is_done (sym is-answer) ∙ sym ed ∙ e))

  pub all-passed : (user' side' dc' : List ℕ) → d ≡ true → Given work block r.stream words user' side' dc'
      → record { answer = r.answer; psn = r.psn.0; lent = record { user = user'; side = side'; dc = dc'; work = work } } ≡ cluster_outcome before work words lent
  unfolding cluster_tested
  all-passed user' side' dc' t given =
      let done = done-is r.answer (sym ed ∙ t) in
      let psn = ap (λ (x : Tested). x.psn.0) is-tested in
      let is-user = given.user-is ∙ ap (λ (x : Tested). user_in x.stream work) is-tested in
      let is-side = given.side-is ∙ ap side_in eb in
      (λ i. record { answer = done i; psn = psn i; lent = record { user = is-user i; side = is-side i; dc = given.dc-is i; work = work } })
      ∙ by_tests true t

  pub one-refused : (zeros : List ℕ) → d ≡ false → zeros ≡ tabulate (length work) (λ _. 0)
      → record { answer = r.answer; psn = 0; lent = record { user = user; side = side; dc = dc; work = zeros } } ≡ cluster_outcome before work words lent
  one-refused zeros f e = (λ i. record { answer = is-answer i; psn = 0; lent = record { user = user; side = side; dc = dc; work = e i } }) ∙ by_tests false f
