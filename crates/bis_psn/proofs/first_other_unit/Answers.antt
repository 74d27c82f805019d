-- `first_other_unit` meets its contract: the first unit whose AUN is not the PSN's (laws, Found).
use mathlib.Core.Path.{◌≡◌}
use mathlib.Core.Bool.{true, false}
use Rattle.std.proofs.Common.{rules, tests}
use Rattle.std.proofs.lemmas.Iterator.{first_from_Range, serves_from_Range}
use Rattle.laws.proofs.Found.{found-in}
use Rattle.bis.specs.Reading.{other_unit, first_other_unit}
use Rattle.bis_psn.proofs.first_other_unit.Goals as goal

pub find-requires : goal.find-requires
find-requires c = record { can = tt; finite = tt; callable = serves_from_Range (λ x q k. search (rules, tests)) (λ x low high. search rules) }

pub returns : goal.returns
unfolding first_other_unit
returns c =
    found-in (other_unit c.args.block.now c.args.psn.0) 16 _
    (first_from_Range _ _ _ _ (λ y. other_unit c.args.block.now c.args.psn.0 y ≡ true) (λ y. other_unit c.args.block.now c.args.psn.0 y ≡ false) c.find.ensures.ran
    (λ x q k. search (rules, tests))
    (λ x q k. search (rules, tests)))
