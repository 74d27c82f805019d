-- `first_wrong_field` meets its contract: the first unit whose field is wrong (laws, Found).
use mathlib.Core.Path.{◌≡◌}
use mathlib.Core.Bool.{true, false}
use Rattle.std.proofs.Common.{rules, tests}
use Rattle.std.proofs.lemmas.Iterator.{first_from_Range, serves_from_Range}
use Rattle.laws.proofs.Found.{found-in}
use Rattle.bis.specs.Reading.{wrong_field, first_wrong_field}
use Rattle.bis_fields.proofs.first_wrong_field.Goals as goal

pub find-requires : goal.find-requires
find-requires c = record { can = tt; finite = tt; callable = serves_from_Range (λ x q k. search (rules, tests)) (λ x low high. search rules) }

pub returns : goal.returns
unfolding first_wrong_field
returns c =
    found-in (wrong_field c.args.block) 16 _
    (first_from_Range _ _ _ _ (λ y. wrong_field c.args.block y ≡ true) (λ y. wrong_field c.args.block y ≡ false) c.find.ensures.ran
    (λ x q k. search (rules, tests))
    (λ x q k. search (rules, tests)))
