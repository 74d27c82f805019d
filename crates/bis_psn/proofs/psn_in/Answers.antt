-- `psn_in` meets its contract, case by case of what is answered of unit 0's AUN (Judging).
use mathlib.Core.Path.{sym, ◌∙◌}
use Rattle.bis_psn.proofs.Judging.{psn-accepted, psn-refused, psn-differs, psn-agrees}
use Rattle.bis_psn.proofs.psn_in.Goals as goal

pub first_other_unit-requires : goal.first_other_unit-requires
first_other_unit-requires c = search (psn-accepted)

pub returns-then-is_some : goal.returns-then-is_some
returns-then-is_some c =
    psn-differs _ c.aun_in.ensures c.psn-first.ensures c.is_done.ensures c.if-is_done.true c.first_other_unit.result c.first_other_unit.ensures
    (sym c.is_some.ensures ∙ c.if-is_some.true)

pub returns-then-is_done : goal.returns-then-is_done
returns-then-is_done c =
    psn-agrees _ c.aun_in.ensures c.psn-first.ensures c.is_done.ensures c.if-is_done.true c.first_other_unit.result c.first_other_unit.ensures
    (sym c.is_some.ensures ∙ c.if-is_some.false)

pub returns : goal.returns
returns c = search (psn-refused)
