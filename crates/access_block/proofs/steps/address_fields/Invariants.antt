-- `address_fields` meets its contract: the loop has made the fields of the units passed.
use mathlib.Core.List.{[]}
use Rattle.laws.proofs.Fill.{Upto}
use Rattle.bis.specs.AccessBlock.{field_of}
use Rattle.access_block.proofs.steps.address_fields.Given as goal

abbrev pub invariant-loop-y : goal.invariant-loop-y
invariant-loop-y l = Upto [] (field_of l.psn.0 l.side) 16 l.y l.field-items
