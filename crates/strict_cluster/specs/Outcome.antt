-- Document 01's table, reading: answer, PSN and the four lent slices at exit, where the lengths are right.
use Rattle.std.specs.Prelude.{cond, List, ℕ, length}
use Rattle.laws.specs.Tabulate.{tabulate}
use Rattle.answer.specs.declared.Answer.{Answer}
use Rattle.answer.specs.declared.Answer.TheVariants.{Done}
use Rattle.answer.specs.Answer.{is_done}
use Rattle.scrambling.specs.Scrambling.{scrambling_of}
use Rattle.bis.specs.Reading.{side_in}
use Rattle.cluster.specs.Multiplex.{bis_in}
use Rattle.cluster.specs.Reading.{user_in}
use Rattle.judging.specs.Tests.{cluster_psn}

-- the slices that a reader is lent to write
pub record Lent : Type 0 where
  pub user : List ℕ
  pub side : List ℕ
  pub dc : List ℕ
  pub work : List ℕ

pub record Outcome : Type 0 where
  pub answer : Answer
  pub psn : ℕ
  pub lent : Lent

-- accepted: the ECC cluster and all that it was made of, and the dc words
abbrev pub accepted : List ℕ → List ℕ → Outcome
accepted work dc =
    let psn = cluster_psn work in
    record { answer = Done; psn = psn; lent = record { user = user_in (scrambling_of psn) work; side = side_in (bis_in work); dc = dc; work = work } }

-- refused: the PSN is 0, work is zeros, the others are as they were
abbrev pub cleared : Lent → Lent
cleared before = record { user = before.user; side = before.side; dc = before.dc; work = tabulate (length before.work) (λ _. 0) }

-- the answer decides; the ECC cluster and the dc words that were read, and the slices at entry
abbrev pub outcome_by : Answer → List ℕ → List ℕ → Lent → Outcome
outcome_by answer work dc before = cond (is_done answer) (accepted work dc) (record { answer = answer; psn = 0; lent = cleared before })
